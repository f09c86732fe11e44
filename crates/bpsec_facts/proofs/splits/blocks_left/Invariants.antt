use Rattle.std.proofs.Common.{◌≡◌, map, take}
use Rattle.bpsec_facts.specs.View.{facts}
use Rattle.bpsec_facts.specs.Left.{block_left}
use Rattle.bpsec_facts.proofs.splits.blocks_left.Given as goal

abbrev pub invariant-loop-block : goal.invariant-loop-block
invariant-loop-block l = l.left ≡ map (block_left (facts l.case)) (take l.block-index l.case.blocks.now)
