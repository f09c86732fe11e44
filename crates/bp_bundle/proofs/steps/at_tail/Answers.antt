use Rattle.std.proofs.Common.{◌≡◌, ◌+◌, ◌*◌, ◌-◌, ◌<◌, ◌≤◌, List, [], ◌∷◌, ◌++◌, length, true, false, Result, Ok, Err, refl, sym, ap, subst, ◌∙◌, arith, length-append}
use Rattle.bp_blocks.specs.declared.block.Block.{Block}
use Rattle.bp_bundle.specs.Faults.{is_payload}
use Rattle.bp_bundle.specs.FirstFault.{check_at, block_check}
use Rattle.bp_bundle.specs.Step.{seen}
use Rattle.bp_bundle.proofs.ReadingStays.{GrowthLaws}
use Rattle.bp_bundle.proofs.StepsFollow.{check_fails, end_fails, tail_follows, tail_ends}
use Rattle.bp_bundle.proofs.steps.at_tail.Goals as goal

pub stopped-requires : goal.stopped-requires
stopped-requires c =
    check_fails c.args.closing (seen c.args.here) c.in-Err.fault (rw (c.as_slice.ensures, c.args.closing.checks) at c.in-Err.ensures)

pub stopped-requires-in-Err-end : goal.stopped-requires-in-Err-end
stopped-requires-in-Err-end c =
    let laws : GrowthLaws = record { heads = c.heads_are_judged_from_the_left.ensures; ids = c.answers_stay_the_same.ensures.id; id_faults = c.answers_stay_the_same.ensures.fault } in
    let payload : is_payload c.args.closing.block ≡ true = sym c.is_payload.ensures ∙ c.if-is_payload.true in
    end_fails laws c.args.closing (seen c.args.here) (seen c.in-Ok.rest) c.in-Err-end.fault (rw (c.as_slice.ensures, c.args.closing.checks) at c.in-Ok.ensures) payload c.in-Err-end.ensures

pub returns-in-Ok-pushed : goal.returns-in-Ok-pushed
returns-in-Ok-pushed c =
    let laws : GrowthLaws = record { heads = c.heads_are_judged_from_the_left.ensures; ids = c.answers_stay_the_same.ensures.id; id_faults = c.answers_stay_the_same.ensures.fault } in
    let payload : is_payload c.args.closing.block ≡ true = sym c.is_payload.ensures ∙ c.if-is_payload.true in
    tail_ends laws c.args.closing c.in-Ok-pushed.begun (seen c.args.here) (seen c.in-Ok.rest) (seen c.in-Ok-end.rest) (rw (c.as_slice.ensures, c.args.closing.checks) at c.in-Ok.ensures) payload c.in-Ok-end.ensures c.in-Ok-pushed.ensures.primary c.in-Ok-pushed.ensures.blocks

pub returns-in-Ok-pushed-2 : goal.returns-in-Ok-pushed-2
returns-in-Ok-pushed-2 c =
    let laws : GrowthLaws = record { heads = c.heads_are_judged_from_the_left.ensures; ids = c.answers_stay_the_same.ensures.id; id_faults = c.answers_stay_the_same.ensures.fault } in
    let other : is_payload c.args.closing.block ≡ false = sym c.is_payload.ensures ∙ c.if-is_payload.false in
    let room = c.args.closing.room in (
      tail_follows laws c.args.closing c.in-Ok-pushed-2.begun (seen c.args.here) (seen c.in-Ok.rest) (rw (c.as_slice.ensures, c.args.closing.checks) at c.in-Ok.ensures) other c.in-Ok-pushed-2.ensures.primary c.in-Ok-pushed-2.ensures.blocks,
      omega (arith, ap (λ (bs : List Block). length bs) c.in-Ok-pushed-2.ensures.blocks, length-append c.args.closing.begun.blocks (c.args.closing.block ∷ [])),
    )

pub returns-in-Err-pushed : goal.returns-in-Err-pushed
returns-in-Err-pushed c = c.out_of_memory.ensures _ _

pub returns-in-Err-pushed-2 : goal.returns-in-Err-pushed-2
returns-in-Err-pushed-2 c = c.out_of_memory-in-Err-pushed-2.ensures _ _
