use Rattle.std.proofs.Common.{◌*◌, ◌-◌, take, drop, refl, arith}
use Rattle.gcm_core.proofs.HashLemmas.{Hashes_block, Hashes_all}
use Rattle.gcm_core.proofs.hash.absorb_blocks.Goals as goal

pub loop-block-preserved : goal.loop-block-preserved
loop-block-preserved c = λ before held.
    let start = 16 * c.loop-block.block in
    Hashes_block c.args.subkey.now before c.args.bytes.now (take (c.min-end.result - start) (drop start c.args.bytes.now))
    c.loop-block.block
    c.min-end.result c.loop-block.absorbed c.filled_block.result c.product-absorbed.result (omega (arith, c.div_ceil-block-end.ensures))
    c.min-end.ensures
    refl (c.loop-block.invariant before held) c.filled_block.ensures c.product-absorbed.ensures

pub returns : goal.returns
returns c = λ before held.
    Hashes_all c.args.subkey.now before c.args.bytes.now c.loop-block.block c.loop-block.absorbed
    (omega (arith, c.div_ceil-block-end.ensures)) (c.loop-block.invariant before held)
