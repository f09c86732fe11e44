-- Why a primary block and a list of canonical blocks are no bundle: the first of these in their order.
use Rattle.std.specs.Prelude.{ℕ, ◌-◌, Bool, false, not, ◌==◌, ◌&&◌, ◌||◌, nat_lt, if◌then◌else◌, List, [], ◌∷◌, ◌++◌, length, Option, Some, None}
use Rattle.std.specs.List.{list_any, position, slice_get}
use Rattle.cbor_profile.specs.declared.TheConstants.{BUNDLE_LIMIT}
use Rattle.bp_blocks.specs.declared.block.Block.{Block}
use Rattle.bp_bundle.specs.declared.shape.ShapeFault.{ShapeFault}
use Rattle.bp_bundle.specs.declared.shape.ShapeFault.TheVariants.{TooManyBlocks, BadNumber, Repeated, NoPayloadLast, TooLong}
use Rattle.bp_bundle.specs.Shape.{Contents}
use Rattle.bp_bundle.specs.Spelling.{is_single, spelling}

-- both or neither
abbrev pub exactly : Bool → Bool → Bool
exactly a b = if a then b else not b

-- a block of this type may have this number
abbrev pub may_have : ℕ → ℕ → Bool
may_have kind number = not (number == 0) && exactly (kind == 1) (number == 1)

abbrev pub is_misnumbered : Block → Bool
is_misnumbered block = not (may_have block.kind block.number)

-- the number, or a type of which there is one block at most, stands in an earlier block
abbrev pub has_number : List Block → ℕ → Bool
has_number before number = list_any (λ block. block.number == number) before

abbrev pub has_single : List Block → ℕ → Bool
has_single before kind = is_single kind && list_any (λ block. block.kind == kind) before

abbrev pub is_repeated : List Block → Block → Bool
is_repeated before block = has_number before block.number || has_single before block.kind

-- the least index of a block whose number or type stood before
abbrev pub repeated_from : List Block → List Block → Option ℕ
repeated_from before [] = None
repeated_from before (block ∷ more) = if is_repeated before block then Some (length before) else repeated_from (before ++ block ∷ []) more

abbrev pub is_payload : Block → Bool
is_payload block = (block.kind == 1) && (block.number == 1)

abbrev pub is_payload_there : Option Block → Bool
is_payload_there None = false
is_payload_there (Some block) = is_payload block

abbrev pub ends_in_payload : List Block → Bool
ends_in_payload blocks = is_payload_there (slice_get blocks (length blocks - 1))

-- the fault at an index, if there is one, else what comes next
abbrev pub or_else : (ℕ → ShapeFault) → Option ℕ → Option ShapeFault → Option ShapeFault
or_else fault (Some index) next = Some (fault index)
or_else fault None next = next

-- the first fault of blocks that are spelled in a bundle of so many bytes
unfoldable pub shape_fault_of : ℕ → List Block → Option ShapeFault
shape_fault_of size blocks =
    if nat_lt 64 (length blocks) then Some TooManyBlocks
    else or_else BadNumber (position is_misnumbered blocks)
    (or_else Repeated (repeated_from [] blocks)
    (if not (ends_in_payload blocks) then Some NoPayloadLast
    else if nat_lt BUNDLE_LIMIT size then Some TooLong
    else None))

unfoldable pub shape_fault : Contents → Option ShapeFault
shape_fault bundle = shape_fault_of (length (spelling bundle)) bundle.blocks
