use Rattle.std.proofs.Common.{◌≡◌, ◌+◌, ◌-◌, ◌^◌, min, take, length}
use Rattle.std.specs.List.{All, flat_map}
use Rattle.bp_primary.specs.Spelling as primaries
use Rattle.bp_primary.specs.Spelling.{IsPrimary}
use Rattle.bp_blocks.specs.Spelling as blocks
use Rattle.bp_blocks.specs.Spelling.{IsBlock}
use Rattle.bp_bundle.proofs.shape.spelled_size.Given as goal

abbrev pub invariant-loop-block : goal.invariant-loop-block
invariant-loop-block l = record {
  size : l.size ≡ min (2 + length (primaries.spelling l.primary) + length (flat_map blocks.spelling (take l.block-index l.blocks))) (2 ^ 64 - 1);
  primary : IsPrimary l.primary;
  blocks : All IsBlock (take l.block-index l.blocks);
}
