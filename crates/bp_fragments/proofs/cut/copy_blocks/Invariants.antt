use Rattle.std.proofs.Common.{◌≡◌, take}
use Rattle.std.specs.Prelude.{filter}
use Rattle.bp_fragments.specs.Cut.{is_kept}
use Rattle.bp_fragments.proofs.cut.copy_blocks.Given as goal

abbrev pub invariant-loop-block : goal.invariant-loop-block
invariant-loop-block l = l.copies ≡ filter (is_kept l.index) (take l.block-index l.blocks)
