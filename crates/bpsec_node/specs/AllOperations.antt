-- The operations of a bundle, with those that opening shows.
use Rattle.std.specs.Prelude.{ℕ, ◌||◌, Bool, not, List, ◌++◌, filter, is_some}
use Rattle.std.specs.List.{flat_map}
use Rattle.bp_blocks.specs.declared.block.Block.{Block}
use Rattle.bpsec_asb.specs.declared.operation.OpId.{OpId}
use Rattle.bpsec_asb.specs.declared.operation.Service.TheVariants.{Bib}
use Rattle.bpsec_asb.specs.Known.{in_order, held_by, known}
use Rattle.bpsec_node.specs.Situation.{Situation}
use Rattle.bpsec_node.specs.Plain.{cover, is_opened, plain}

-- the covered blocks that were opened, with their plain bodies
unfoldable pub revealed : Situation → List Block
revealed s = filter (λ block. is_opened s block.number) (plain s).blocks

-- The known operations of the received bundle, and those of the block integrity blocks that are revealed, each once, in the
-- order of service (bib before bcb), block, target.
unfoldable pub all_operations : Situation → List OpId
all_operations s = in_order (known s.bundle.blocks ++ flat_map (held_by Bib) (revealed s))

-- the block with this number is visible, or was opened
unfoldable pub is_open : Situation → ℕ → Bool
is_open s number = not (is_some (cover s.bundle.blocks number)) || is_opened s number
