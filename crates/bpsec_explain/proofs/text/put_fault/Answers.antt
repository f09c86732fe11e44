use Rattle.std.proofs.Common.{List, ℕ, ◌++◌, ◌∙◌, append_assoc}
use Rattle.std.specs.Prelude.{codes}
use Rattle.cbor_profile.specs.Reasons.{reason_name}
use Rattle.bpsec_explain.specs.Texts.{newline, number, fault_line}
use Rattle.bpsec_explain.proofs.Pieces.{two_pieces, last_piece, same_pieces}
use Rattle.bpsec_explain.proofs.text.put_fault.Goals as goal

pub returns : goal.returns
unfolding fault_line
returns c =
    let a : List ℕ = number (codes "unreadable place=") c.args.fault.place in
    let b : List ℕ = codes " reason=" in
    let d : List ℕ = reason_name c.args.fault.reason in
    same_pieces c.extend-2.result c.args.out.now (((a ++ b) ++ d) ++ newline) (a ++ (b ++ (d ++ newline))) c.extend-2.new.self (append_assoc (a ++ b) d newline ∙ append_assoc a b (d ++ newline))
    (last_piece c.extend-2.result c.args.out.now ((a ++ b) ++ d) newline c.put_reason.new.out c.extend-2.new.self
    (two_pieces c.args.out.now (a ++ b) c.extend.new.self d c.put_reason.new.out (two_pieces c.args.out.now a c.put_number.new.out b c.extend.new.self c.in_ok-put_number.ensures c.in_ok-extend.ensures.ok) c.in_ok-put_reason.ensures)
    c.extend-2.ensures.ok)
