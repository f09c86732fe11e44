use Rattle.std.proofs.Common.{◌≡◌, ◌++◌, map, take, drop}
use Rattle.bpsec_facts.specs.View.{facts}
use Rattle.bpsec_secure.specs.Secured.{sealed}
use Rattle.bpsec_secure.specs.Tags.{tag_of_block}
use Rattle.bpsec_secure.proofs.sealing.seal_blocks.Given as goal

abbrev pub invariant-loop-block : goal.invariant-loop-block
invariant-loop-block g l = record {
  blocks : l.block-items ≡ map (sealed (facts l.case)) (take l.block-index l.fn.blocks) ++ drop l.block-index l.fn.blocks;
  tags : l.tags ≡ l.fn.tags ++ map (tag_of_block (facts l.case)) (take l.block-index l.fn.blocks);
}
