use Rattle.std.proofs.Common.{◌<◌, List, length, ap, arith}
use Rattle.bp_blocks.specs.declared.block.Block.{Block}
use Rattle.bpsec_facts.specs.View.{facts}
use Rattle.bpsec_secure.specs.Secured.{sealed}
use Rattle.bpsec_secure.specs.Tags.{tag_of_block}
use Rattle.bpsec_secure.proofs.InPlace.{tags_step, sealed_step}
use Rattle.bpsec_secure.proofs.sealing.seal_blocks.Goals as goal

pub loop-block-preserved : goal.loop-block-preserved
loop-block-preserved g c =
    let within : c.loop-block.block-index < length c.args.blocks.now = omega (arith, ap (λ (bs : List Block). length bs) c.items_mut-block-items.ensures.value) in
    record {
      blocks = sealed_step (sealed (facts c.args.case.now)) c.args.blocks.now c.loop-block.block-items c.loop-block.block-index c.block-item.result c.seal_next.new.block within c.loop-block.invariant.blocks c.block-item.is c.in_ok-seal_next.ensures.block;
      tags = tags_step (sealed (facts c.args.case.now)) (tag_of_block (facts c.args.case.now)) c.args.blocks.now c.loop-block.block-items c.loop-block.block-index c.block-item.result within c.loop-block.invariant.blocks c.args.tags.now c.loop-block.tags c.seal_next.new.tags c.loop-block.invariant.tags c.in_ok-seal_next.ensures.tag;
    }
