-- The known operations as a list.
use Rattle.std.specs.Prelude.{ℕ, Bool, true, false, not, ◌==◌, ◌&&◌, if◌then◌else◌, List, [], ◌++◌, map, filter, fold, All, Result, Ok, Err}
use Rattle.std.specs.List.{flat_map, list_any}
use Rattle.std.specs.BTreeSet.{insert_key}
use Rattle.cbor_profile.specs.declared.fault.Fault.{Fault}
use Rattle.bp_blocks.specs.declared.block.Block.{Block}
use Rattle.bpsec_asb.specs.declared.asb.Asb.{Asb}
use Rattle.bpsec_asb.specs.declared.operation.Service.{Service}
use Rattle.bpsec_asb.specs.declared.operation.Service.TheVariants.{Bib, Bcb}
use Rattle.bpsec_asb.specs.declared.operation.OpId.{OpId}
use Rattle.bpsec_asb.specs.Reading.{read_body}
use Rattle.bpsec_asb.specs.Order.{op_cmp}
use Rattle.bpsec_asb.specs.Operations.{block_type, IsHeldBy}

-- ---- the order

-- these operations in that order, each once
abbrev pub in_order : List OpId → List OpId
in_order ops = fold (insert_key op_cmp) [] ops

-- ---- the operations of the blocks

abbrev pub targets_of : Result Asb Fault → List ℕ
targets_of (Ok asb) = asb.targets
targets_of (Err fault) = []

-- the operation of a service that the block of this number applies to a target
abbrev pub operation : Service → ℕ → ℕ → OpId
operation service number target = record { service = service; block = number; target = target }

-- the operations of a service that the block holds
abbrev pub held_by : Service → Block → List OpId
held_by service block =
    if block.kind == block_type service then map (operation service block.number) (targets_of (read_body block.body)) else []

-- each of these is held by the block
abbrev pub ListsHeld : Service → Block → Type 0
ListsHeld service block = All (λ op. IsHeldBy op block) (held_by service block)

-- the bcb operations of all blocks
abbrev pub ciphers : List Block → List OpId
ciphers blocks = flat_map (held_by Bcb) blocks

-- the blocks that none of these operations targets
abbrev pub untargeted : List OpId → List Block → List Block
untargeted ops blocks = filter (λ block. not (list_any (λ op. op.target == block.number) ops)) blocks

-- The known operations, in order: all bcb operations, and the bib operations of the blocks that none of these targets.
abbrev pub known : List Block → List OpId
known blocks = in_order (ciphers blocks ++ flat_map (held_by Bib) (untargeted (ciphers blocks) blocks))

-- ---- covered blocks

abbrev pub is_bcb : Service → Bool
is_bcb Bib = false
is_bcb Bcb = true

-- A bcb operation of the list covers the block of this number: a canonical block of another type than 12 (RFC 9172, section
-- 3.8).
abbrev pub is_covered : List Block → List OpId → ℕ → Bool
is_covered blocks ops number =
    list_any (λ op. is_bcb op.service && op.target == number) ops
    && list_any (λ block. block.number == number && not (block.kind == 12)) blocks
