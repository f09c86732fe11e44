use Rattle.std.proofs.Common.{◌≡◌, ◌<◌, List, length, ap, sym, arith}
use Rattle.bp_blocks.specs.declared.block.Block.{Block}
use Rattle.bp_bundle.specs.Edits.{crc_if}
use Rattle.bp_bundle.proofs.ChangedInPlace.{step_by}
use Rattle.bp_bundle.proofs.edits.set_block_crc.Goals as goal

pub loop-block-preserved : goal.loop-block-preserved
loop-block-preserved c =
    let within : c.loop-block.block-index < length c.args.blocks.now = omega (arith, ap (λ (bs : List Block). length bs) c.items_mut-block-items.ensures.value) in
    step_by (crc_if c.args.number c.args.crc) c.args.blocks.now c.loop-block.block-items c.loop-block.block-index c.block-item.result c.give_crc.new.block c.loop-block.invariant within c.give_crc.ensures
