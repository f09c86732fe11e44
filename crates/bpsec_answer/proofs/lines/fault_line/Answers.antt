use Rattle.std.proofs.Common.{◌≡◌, ℕ, List, [], ◌∷◌, ◌++◌, sym, ◌∙◌, append_assoc}
use Rattle.std.specs.Prelude.{codes}
use Rattle.std.specs.Fmt.{decimal}
use Rattle.cbor_profile.specs.Reasons.{reason_name}
use Rattle.cbor_profile.specs.declared.fault.Fault.{Fault}
use Rattle.bpsec_answer.specs.Lines.{fault_line}
use Rattle.bpsec_answer.proofs.lines.fault_line.Goals as goal

written : (fault : Fault) (name : List ℕ) → name ≡ reason_name fault.reason
    → codes "refused bundle place=" ++ (decimal fault.place ++ (codes " reason=" ++ (name ++ 10 ∷ [])))
    ≡ fault_line fault
written fault name e = rw e (sym (simp append_assoc))

pub returns : goal.returns
returns c =
    c.in_ok-format.ensures.ok
    ∙ written c.args.fault c.name-reason.result.now c.name-reason.ensures
