use Rattle.std.proofs.Common.{subst, ◌∙◌}
use Rattle.bpsec_answer.specs.Statuses.{IsFault}
use Rattle.bpsec_command.proofs.WhatIsDueIsTaken.{takes_due, untouched}
use Rattle.bpsec_command.proofs.program.run.Goals as goal

pub returns-in-Ok-clause-complete : goal.returns-in-Ok-clause-complete
returns-in-Ok-clause-complete g c = λ source files sinks memory.
    let takes = takes_due _ _ _ (g.W.Sink.takes c.args.out.now) (g.R.Sink.takes c.args.report.now) c.in-Ok.ensures.due c.in-Ok.ensures.no_fault sinks memory in
    let whole = c.deliver.ensures.takes_on (rw c.as_slice.ensures takes.0) (rw c.as_slice-in-Ok.ensures takes.1) in
    λ fault. c.in-Ok.ensures.no_fault (subst IsFault whole fault)

pub returns-in-Ok-clause-untouched_out : goal.returns-in-Ok-clause-untouched_out
returns-in-Ok-clause-untouched_out g c = λ refused out report.
    untouched _ _ _ _ c.deliver.ensures.delivered refused out report (λ fails. c.as_slice.ensures ∙ c.in-Ok.ensures.no_output fails) c.deliver.ensures.untouched_out
