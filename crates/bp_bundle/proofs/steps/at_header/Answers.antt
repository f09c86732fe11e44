use Rattle.std.proofs.Common.{◌≡◌, ◌*◌, ◌-◌, ◌<◌, List, [], length, Result, Ok, Err, refl, ap, arith}
use Rattle.bp_blocks.specs.declared.block.Block.{Block}
use Rattle.bp_bundle.specs.FirstFault.{header_at}
use Rattle.bp_bundle.specs.Step.{Fails, seen}
use Rattle.bp_bundle.specs.Machine.{resume}
use Rattle.bp_bundle.specs.declared.stage.Begun.{Begun}
use Rattle.bp_bundle.proofs.ReadingStays.{GrowthLaws}
use Rattle.bp_bundle.proofs.StepsFollow.{header_follows, header_fails, header_few, header_small}
use Rattle.bp_bundle.proofs.steps.at_header.Goals as goal

pub opened-requires : goal.opened-requires
opened-requires c =
    let is = rw c.items.ensures at c.in-Ok.ensures in
    record { room = header_few c.args.begun.blocks (seen c.args.here) (c.in-Ok.found, seen c.in-Ok.rest) is; small = header_small c.args.begun.blocks (seen c.args.here) (c.in-Ok.found, seen c.in-Ok.rest) is }

pub stopped-requires : goal.stopped-requires
stopped-requires c = header_fails c.args.begun (seen c.args.here) c.in-Err.fault (rw c.items.ensures at c.in-Err.ensures)

pub returns-in-Ok : goal.returns-in-Ok
returns-in-Ok c =
    let laws : GrowthLaws = record { heads = c.heads_are_judged_from_the_left.ensures; ids = c.answers_stay_the_same.ensures.id; id_faults = c.answers_stay_the_same.ensures.fault } in
    let is = rw c.items.ensures at c.in-Ok.ensures in
    let few = header_few c.args.begun.blocks (seen c.args.here) (c.in-Ok.found, seen c.in-Ok.rest) is in (
      header_follows laws c.args.begun (seen c.args.here) c.in-Ok.found (seen c.in-Ok.rest) c.opened.result c.opened.ensures.begun c.opened.ensures.header c.opened.ensures.body is,
      omega (arith, few, ap (λ (b : Begun). length b.blocks) c.opened.ensures.begun),
    )
