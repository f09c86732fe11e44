use Rattle.std.proofs.Common.{◌≡◌, ◌∙◌, ap}
use Rattle.std.proofs.lemmas.Result.{IfOk-weaker}
use Rattle.bpsec_reports.specs.Reported.{reported_end}
use Rattle.bpsec_reports.proofs.status.run.Goals as goal

pub returns-clause-is : goal.returns-clause-is
returns-clause-is c =
    IfOk-weaker c.ended.result _ _
    (λ answer told. told ∙ ap (reported_end c.args.subject.now c.args.policy.now.node c.args.job.time c.args.job.sequence) c.in_ok-outcome.ensures)
    c.ended.ensures.is
