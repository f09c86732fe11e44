use Rattle.std.proofs.Common.{◌≡◌, ℕ, List, [], ◌∷◌, ◌++◌, sym, ◌∙◌, append_assoc}
use Rattle.std.specs.Prelude.{codes}
use Rattle.std.specs.Fmt.{decimal}
use Rattle.bpsec_jobs.specs.NodeReport.{done_line}
use Rattle.bpsec_jobs.proofs.node_report.done_line.Goals as goal

written : (bytes blocks : ℕ) → codes "result done bytes=" ++ (decimal bytes ++ (codes " blocks=" ++ (decimal blocks ++ 10 ∷ []))) ≡ done_line bytes blocks
unfolding done_line
written bytes blocks = sym (simp append_assoc)

pub returns : goal.returns
returns c = c.in_ok-format.ensures.ok ∙ written c.args.bytes c.args.blocks
