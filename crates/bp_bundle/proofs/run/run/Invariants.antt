use Rattle.bp_bundle.specs.Step.{seen}
use Rattle.bp_bundle.specs.Machine.{Follows, steps_left}
use Rattle.bp_bundle.proofs.run.run.Given as goal

abbrev pub invariant-loop-next : goal.invariant-loop-next
invariant-loop-next l = Follows l.fn.stage (seen l.fn.here) l.stage (seen l.here)

abbrev pub decreases-loop-next : goal.decreases-loop-next
decreases-loop-next l = steps_left l.stage
