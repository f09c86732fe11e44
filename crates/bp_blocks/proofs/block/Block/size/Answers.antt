use Rattle.std.proofs.Common.{[], refl, arith}
use Rattle.bp_blocks.proofs.Pieces.{short_array, length-spelling}
use Rattle.bp_blocks.proofs.block.Block.size.Goals as goal

pub returns-clause-size : goal.returns-clause-size
returns-clause-size c =
    let short = short_array _ _ c.feed_with.ensures.fits c.zeros.ensures.few in
    rw (length-spelling c.args.self.now, ← c.zeros.ensures.value) (c.feed_with.ensures.stands [] refl (omega arith))
