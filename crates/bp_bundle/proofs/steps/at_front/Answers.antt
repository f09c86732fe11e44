use Rattle.std.proofs.Common.{◌≡◌, ◌*◌, ◌-◌, ◌<◌, List, [], length, refl, ap, arith}
use Rattle.bp_blocks.specs.declared.block.Block.{Block}
use Rattle.bp_bundle.specs.Step.{Fails, seen}
use Rattle.bp_bundle.specs.Machine.{resume}
use Rattle.bp_bundle.proofs.ReadingStays.{GrowthLaws}
use Rattle.bp_bundle.proofs.StepsFollow.{front_follows, front_error}
use Rattle.bp_bundle.proofs.steps.at_front.Goals as goal

pub stopped-requires : goal.stopped-requires
stopped-requires c = front_error (seen c.args.here) c.in-Err.error c.in-Err.ensures

pub returns-in-Ok : goal.returns-in-Ok
returns-in-Ok c =
    let laws : GrowthLaws = record { heads = c.heads_are_judged_from_the_left.ensures; ids = c.answers_stay_the_same.ensures.id; id_faults = c.answers_stay_the_same.ensures.fault } in
    (front_follows laws (seen c.args.here) c.in-Ok.primary (seen c.in-Ok.rest) _ refl c.new.ensures c.in-Ok.ensures, omega (arith, ap (λ (bs : List Block). length bs) c.new.ensures))
