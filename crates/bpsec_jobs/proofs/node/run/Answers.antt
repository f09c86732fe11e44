use Rattle.std.proofs.Common.{◌≡◌, ◌∙◌, ap}
use Rattle.bpsec_jobs.specs.NodeReport.{ended}
use Rattle.bpsec_jobs.proofs.SessionIsPicked.{if_ok}
use Rattle.bpsec_jobs.proofs.node.run.Goals as goal

pub returns-clause-is : goal.returns-clause-is
returns-clause-is c =
    if_ok c.ended.result _ _ (λ answer told. told ∙ ap ended c.in_ok-outcome.ensures) c.ended.ensures.is
