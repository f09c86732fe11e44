use Rattle.std.proofs.Common.{◌≡◌, List, ◌++◌, Result, Err}
use Rattle.bp_bundle.specs.Step.{Fails, seen}
use Rattle.bp_bundle.specs.Machine.{resume}
use Rattle.bp_bundle.proofs.ReadingStays.{GrowthLaws}
use Rattle.bp_bundle.proofs.StatesGoOn.{stops_for_good, waits_there, same_follows}
use Rattle.bp_bundle.proofs.steps.stopped.Goals as goal

pub returns-in-Truncated : goal.returns-in-Truncated
returns-in-Truncated c =
    let is : resume c.args.stage (seen c.args.here) ≡ Err c.in-Fault.fault = rw c.in-Fault.is at c.requires in
    (same_follows c.args.stage (seen c.args.here), waits_there c.args.stage (seen c.args.here) c.in-Fault.fault is c.in-Truncated.is)

pub returns-in_default : goal.returns-in_default
returns-in_default c =
    let laws : GrowthLaws = record { heads = c.heads_are_judged_from_the_left.ensures; ids = c.answers_stay_the_same.ensures.id; id_faults = c.answers_stay_the_same.ensures.fault } in
    let is : resume c.args.stage (seen c.args.here) ≡ Err c.in-Fault.fault = rw c.in-Fault.is at c.requires in
    stops_for_good laws c.args.stage (seen c.args.here) c.in-Fault.fault is c.in_default.not-Truncated
