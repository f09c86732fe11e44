use Rattle.std.proofs.Common.{◌≡◌, ◌++◌, take}
use Rattle.std.specs.List.{flat_map}
use Rattle.bp_blocks.specs.Spelling.{spelling}
use Rattle.bp_bundle.proofs.bundle.put_blocks.Given as goal

abbrev pub invariant-loop-block : goal.invariant-loop-block
invariant-loop-block l = l.out ≡ l.fn.out ++ flat_map spelling (take l.block-index l.blocks)
