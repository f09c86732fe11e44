-- Security operations (RFC 9172, sections 1.4, 3.4, 3.7 and 3.8; 11.1 for the block types), over the canonical blocks of a
-- bundle.
use Rattle.std.specs.Prelude.{◌≡◌, ◌≢◌, ℕ, ◌<◌, List, slice_index, All, Contains, AllPairs}
use Rattle.bp_blocks.specs.declared.block.Block.{Block}
use Rattle.bpsec_asb.specs.declared.asb.Asb.{Asb}
use Rattle.bpsec_asb.specs.declared.operation.Service.{Service}
use Rattle.bpsec_asb.specs.declared.operation.Service.TheVariants.{Bib, Bcb}
use Rattle.bpsec_asb.specs.declared.operation.OpId.{OpId}
use Rattle.bpsec_asb.specs.SecurityBlock.{Reads}

-- the type of the blocks that hold operations of this service
abbrev pub block_type : Service → ℕ
block_type Bib = 11
block_type Bcb = 12

-- no two blocks have one number
abbrev pub NumbersAreDistinct : List Block → Type 0
NumbersAreDistinct blocks = AllPairs (λ a b. a.number ≢ b.number) blocks

-- every body is made of bytes
abbrev pub BodiesAreBytes : List Block → Type 0
BodiesAreBytes blocks = All (λ block. (i : ℕ) → slice_index block.body i < 256) blocks

-- It is the operation that a security block, whose body is readable, applies to one of its targets.
pub record IsHeldBy (op : OpId) (block : Block) : Type 0 where
  pub service : block.kind ≡ block_type op.service
  pub number : block.number ≡ op.block
  pub asb : Asb
  pub readable : Reads block.body asb
  pub target : Contains asb.targets op.target

-- it is an operation of a readable security block
abbrev pub IsOperationOf : List Block → OpId → Type 0
IsOperationOf blocks op = (block : Block) × Contains blocks block × IsHeldBy op block

-- The operation covers the block of this number: it is a bcb operation, and its target is a canonical block of this number
-- whose type isn't 12. A block confidentiality block may target neither the primary block nor one of its own kind
-- (section 3.8); such an operation covers nothing.
pub record Covers (blocks : List Block) (op : OpId) (number : ℕ) : Type 0 where
  pub service : op.service ≡ Bcb
  pub target : op.target ≡ number
  pub block : Block
  pub there : Contains blocks block
  pub number_is : block.number ≡ number
  pub not_bcb : block.kind ≢ 12

-- an operation covers the block of this number
abbrev pub IsCovered : List Block → ℕ → Type 0
IsCovered blocks number = (op : OpId) × IsOperationOf blocks op × Covers blocks op number

-- no operation covers it
abbrev pub IsVisible : List Block → ℕ → Type 0
IsVisible blocks number = IsCovered blocks number → ⊥

-- An operation covers it, and isn't among those that are undone.
abbrev pub IsHidden : List OpId → List Block → ℕ → Type 0
IsHidden undone blocks number = (op : OpId) × IsOperationOf blocks op × Covers blocks op number × (Contains undone op → ⊥)

-- The operations that are known: those of the readable security blocks that no operation covers.
abbrev pub IsKnown : List Block → OpId → Type 0
IsKnown blocks op = IsOperationOf blocks op × IsVisible blocks op.block
