use Rattle.std.proofs.Common.{arith, subst}
use Rattle.std.proofs.lemmas.Grind.{common_steps}
use Rattle.std.proofs.lemmas.List.Elements.{All-more}
use Rattle.bpsec_asb.specs.declared.operation.Service.TheVariants.{Bcb}
use Rattle.bpsec_asb.specs.Known.{ListsHeld}
use Rattle.bpsec_asb.proofs.known.add_ciphers.Goals as goal

pub loop-block-preserved : goal.loop-block-preserved
loop-block-preserved c = record {
  keys = grind (arith, common_steps);
  held = All-more (ListsHeld Bcb) c.args.blocks.now c.loop-block.block-index c.block-item.result c.loop-block-test.true c.loop-block.invariant.held (subst (ListsHeld Bcb) c.block-item.is c.in_ok-add_held.ensures.held);
}
