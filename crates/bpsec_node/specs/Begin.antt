-- Which bundles a node takes.
use Rattle.std.specs.Prelude.{◌≡◌, ◌≢◌, ℕ, ◌<◌, ◌≤◌, ◌==◌, Bool, true, false, List, Contains, All, Result, Ok, Err, IsOk, IsTrue, IsFalse}
use Rattle.cbor_profile.specs.declared.fault.Fault.{Fault}
use Rattle.bp_primary.specs.Flags.{is_fragment}
use Rattle.bp_blocks.specs.declared.block.Block.{Block}
use Rattle.bp_bundle.specs.Shape.{Contents}
use Rattle.bpsec_asb.specs.declared.operation.OpId.{OpId}
use Rattle.bpsec_asb.specs.Reading.{read_body}
use Rattle.bpsec_node.specs.declared.begin.BeginFault.{BeginFault}
use Rattle.bpsec_node.specs.declared.begin.BeginFault.TheVariants as faults
use Rattle.bpsec_node.specs.Plain.{covers}

-- a block confidentiality block of this number can't be read, and this is its first fault
pub record IsBroken (blocks : List Block) (number : ℕ) (fault : Fault) : Type 0 where
  pub block : Block
  pub there : Contains blocks block
  pub kind : block.kind ≡ 12
  pub number_is : block.number ≡ number
  pub unreadable : read_body block.body ≡ Err fault

-- it is the one of least number
pub record IsFirstBroken (blocks : List Block) (number : ℕ) (fault : Fault) : Type 0 where
  pub broken : IsBroken blocks number fault
  pub least : (other : ℕ) (fault' : Fault) → IsBroken blocks other fault' → number ≤ other

-- every block confidentiality block is readable
abbrev pub AllReadable : List Block → Type 0
AllReadable blocks = (number : ℕ) (fault : Fault) → IsBroken blocks number fault → ⊥

-- the operation of the block confidentiality block `block` covers the block `target`
abbrev pub IsCoveredBy : List Block → ℕ → ℕ → Type 0
IsCoveredBy blocks target block = (op : OpId) × Contains (covers blocks) op × (op.target ≡ target) × (op.block ≡ block)

-- The least target that operations of two block confidentiality blocks cover, and the two least numbers of these.
pub record IsFirstDouble (blocks : List Block) (target first second : ℕ) : Type 0 where
  pub covers_first : IsCoveredBy blocks target first
  pub covers_second : IsCoveredBy blocks target second
  pub apart : first < second
  pub least : (other : ℕ) → IsCoveredBy blocks target other → other ≢ first → second ≤ other
  pub lowest : (other a b : ℕ) → IsCoveredBy blocks other a → IsCoveredBy blocks other b → a ≢ b → target ≤ other

-- no block is covered by operations of two block confidentiality blocks
abbrev pub CoveredOnce : List Block → Type 0
CoveredOnce blocks = (target a b : ℕ) → IsCoveredBy blocks target a → IsCoveredBy blocks target b → a ≡ b

-- A node takes a bundle that is no fragment (RFC 9172, section 5.2), whose block confidentiality blocks are readable, and none
-- of whose blocks is covered twice (section 3.2).
pub record CanBegin (bundle : Contents) : Type 0 where
  pub whole : IsFalse (is_fragment bundle.primary.flags)
  pub readable : AllReadable bundle.blocks
  pub once : CoveredOnce bundle.blocks

-- the first that stands in the way; want of memory says nothing
abbrev pub IsBeginFault : Contents → BeginFault → Type 0
IsBeginFault bundle faults.IsFragment = IsTrue (is_fragment bundle.primary.flags)
IsBeginFault bundle (faults.BrokenBcb number fault) = IsFalse (is_fragment bundle.primary.flags) × IsFirstBroken bundle.blocks number fault
IsBeginFault bundle (faults.DoubleCipher target first second) =
    IsFalse (is_fragment bundle.primary.flags) × AllReadable bundle.blocks × IsFirstDouble bundle.blocks target first second
IsBeginFault bundle faults.NoMemory = Unit {0}
