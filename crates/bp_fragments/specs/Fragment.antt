-- Fragments of a bundle: RFC 9171, section 5.8. The offset and the total length stand in the primary block (section 4.3.1).
use Rattle.std.specs.Prelude.{ℕ, ◌-◌, Bool, ◌%◌, ◌==◌, List, [], length, Option, Some, None, unwrap_or}
use Rattle.std.specs.List.{slice_get}
use Rattle.bp_primary.specs.declared.primary.Primary.{Primary}
use Rattle.bp_primary.specs.declared.primary.Piece.{Piece}
use Rattle.bp_blocks.specs.declared.block.Block.{Block}
use Rattle.bp_bundle.specs.Shape.{Contents}
use Rattle.bp_bundle.specs.Edits.{body_at}

-- Where a fragment's payload begins in the whole payload, and how many bytes the whole has. Of a bundle that is no fragment
-- both are 0.
abbrev pub piece_of : Primary → Piece
piece_of primary = unwrap_or primary.fragment (record { offset = 0; total = 0 })

abbrev pub offset_of : Contents → ℕ
offset_of bundle = (piece_of bundle.primary).offset

abbrev pub total_of : Contents → ℕ
total_of bundle = (piece_of bundle.primary).total

-- the blocks with this payload
abbrev pub with_payload : List ℕ → List Block → List Block
with_payload body blocks = body_at (length blocks - 1) body blocks

-- block flag 0x1: the block stands in every fragment (section 4.2.4)
abbrev pub is_replicated : Block → Bool
is_replicated block = block.flags % 2 == 1
