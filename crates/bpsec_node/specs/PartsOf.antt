-- What an operation may cover, as it stands in a bundle (RFC 9173, sections 3.7 and 4.7.2).
use Rattle.std.specs.Prelude.{◌≡◌, ℕ, Contains, Some, None}
use Rattle.bp_blocks.specs.declared.block.Block.{Block}
use Rattle.bp_bundle.specs.Shape.{Contents}
use Rattle.bpsec_asb.specs.declared.operation.OpId.{OpId}
use Rattle.bpsec_asb.specs.declared.operation.Service.{Service}
use Rattle.bpsec_asb.specs.declared.operation.Service.TheVariants.{Bib, Bcb}
use Rattle.bpsec_scope.specs.Target.{Target, PrimaryBlock, Body, Sealed}
use Rattle.bpsec_scope.specs.Parts.{Parts}
use Rattle.bpsec_node.specs.Site.{header_of}

-- Integrity applies to the primary block, which has the number 0, or to the body of the block with the number. What
-- confidentiality applies to is sealed.
abbrev pub IsTargetOf : Contents → Service → ℕ → Target → Type 0
IsTargetOf bundle Bib number target =
    (number ≡ 0 → target ≡ PrimaryBlock) × ((block : Block) → Contains bundle.blocks block → block.number ≡ number → target ≡ Body block.body)
IsTargetOf bundle Bcb number target = target ≡ Sealed

-- The primary block is the bundle's, the headers are those of the blocks with the operation's numbers, and a target that is the
-- primary block has none.
pub record IsPartsOf (bundle : Contents) (op : OpId) (parts : Parts) : Type 0 where
  pub primary : parts.primary ≡ bundle.primary
  pub security_header : (block : Block) → Contains bundle.blocks block → block.number ≡ op.block → parts.security_header ≡ header_of block
  pub target_header : (block : Block) → Contains bundle.blocks block → block.number ≡ op.target → parts.target_header ≡ Some (header_of block)
  pub no_header : op.target ≡ 0 → parts.target_header ≡ None
  pub target : IsTargetOf bundle op.service op.target parts.target
