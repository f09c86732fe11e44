use Rattle.std.proofs.Common.{◌≡◌, ℕ, List, [], ◌∷◌, ◌++◌, sym, ◌∙◌, append_assoc}
use Rattle.std.specs.Prelude.{codes}
use Rattle.std.specs.Fmt.{decimal}
use Rattle.bpsec_reports.specs.Reported.{sent_line}
use Rattle.bpsec_reports.proofs.status.sent_line.Goals as goal

written : (bytes reason : ℕ) → codes "report bytes=" ++ (decimal bytes ++ (codes " reason=" ++ (decimal reason ++ 10 ∷ []))) ≡ sent_line bytes reason
unfolding sent_line
written bytes reason = sym (simp append_assoc)

pub returns : goal.returns
returns c = c.in_ok-format.ensures.ok ∙ written c.args.bytes c.args.reason
