use Rattle.std.proofs.Common.{◌≡◌, ◌++◌, map, take, drop}
use Rattle.bp_bundle.specs.Edits.{crc_if}
use Rattle.bp_bundle.proofs.edits.set_block_crc.Given as goal

abbrev pub invariant-loop-block : goal.invariant-loop-block
invariant-loop-block l = l.block-items ≡ map (crc_if l.number l.crc) (take l.block-index l.fn.blocks) ++ drop l.block-index l.fn.blocks
