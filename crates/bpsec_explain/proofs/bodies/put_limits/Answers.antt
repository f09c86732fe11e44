use Rattle.std.proofs.Common.{List, ℕ, ◌++◌, append_assoc}
use Rattle.std.specs.Prelude.{codes}
use Rattle.bpsec_explain.specs.Texts.{newline, number}
use Rattle.bpsec_explain.proofs.Pieces.{two_pieces, last_piece, same_pieces}
use Rattle.bpsec_explain.proofs.bodies.put_limits.Goals as goal

pub returns : goal.returns
returns c =
    let a : List ℕ = number (codes "hops limit=") c.args.limit in
    let b : List ℕ = number (codes " count=") c.args.count in
    same_pieces c.extend.result c.args.out.now ((a ++ b) ++ newline) (a ++ (b ++ newline)) c.extend.new.self (append_assoc a b newline)
    (last_piece c.extend.result c.args.out.now (a ++ b) newline c.put_number-2.new.out c.extend.new.self (two_pieces c.args.out.now a c.put_number.new.out b c.put_number-2.new.out c.in_ok-put_number.ensures c.in_ok-put_number-2.ensures) c.extend.ensures.ok)
