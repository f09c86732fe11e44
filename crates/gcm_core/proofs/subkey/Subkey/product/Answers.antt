use Rattle.std.proofs.Common.{get_or, ◌∙◌, ap, arith}
use Rattle.gcm_core.specs.Block.{bits, block_product}
use Rattle.gcm_core.proofs.BitsLemmas.{length-bits}
use Rattle.gcm_core.proofs.SubkeyLemmas.{product_none, product_more, product_all}
use Rattle.gcm_core.proofs.subkey.Subkey.product.Goals as goal

pub loop-place-init : goal.loop-place-init
loop-place-init c = product_none (bits 128 (get_or c.self.inside.entries 8 0)) c.args.block

pub loop-place-preserved : goal.loop-place-preserved
loop-place-preserved c =
    let entries = c.self.inside.entries in
    let h = bits 128 (get_or entries 8 0) in
    product_more h entries c.loop-place.place c.args.block c.loop-place.sum c.times_x_4.result (length-bits 128 (get_or entries 8 0))
    c.self.invariant c.loop-place.invariant c.times_x_4.ensures

pub returns : goal.returns
returns c =
    product_all (bits 128 (get_or c.self.inside.entries 8 0)) c.loop-place.place c.args.block c.loop-place.sum (omega arith)
    c.loop-place.invariant
    ∙ ap (block_product (bits 128 c.args.block)) c.self.view_is
