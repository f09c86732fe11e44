use Rattle.std.proofs.Common.{◌≡◌, take}
use Rattle.std.specs.List.{flat_map}
use Rattle.bpsec_node.specs.Finished.{remaining_in}
use Rattle.bpsec_node.specs.Seen.{seen}
use Rattle.bpsec_node.proofs.kept.Kept.remaining_blocks.Given as goal

abbrev pub invariant-loop-block : goal.invariant-loop-block
invariant-loop-block l = l.left ≡ flat_map (remaining_in (seen l.self) l.events) (take l.block-index l.block-items)
