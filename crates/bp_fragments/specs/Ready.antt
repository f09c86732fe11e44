-- What stands between fragments without a gap and the bundle.
use Rattle.std.specs.Prelude.{◌≡◌, ℕ, ◌+◌, ◌<◌, List, length, Option, Some, None}
use Rattle.cbor_profile.specs.declared.TheConstants.{BUNDLE_LIMIT}
use Rattle.cbor_profile.specs.Put.{uint}
use Rattle.bp_primary.specs.declared.primary.Primary.{Primary}
use Rattle.bp_blocks.specs.declared.block.Block.{Block}
use Rattle.bp_bundle.specs.Spelling.{spelling}
use Rattle.bp_fragments.specs.declared.fault.FinishFault.{FinishFault}
use Rattle.bp_fragments.specs.declared.fault.FinishFault.TheVariants.{TooLong, NoMemory}

-- with a payload of so many bytes in place of none, the spelling would pass the limit
abbrev pub IsLong : Option (List Block) → Primary → ℕ → Type 0
IsLong None primary total = ⊥
IsLong (Some frame) primary total = BUNDLE_LIMIT + 1 < length (spelling (record { primary = primary; blocks = frame })) + length (uint total) + total

-- it would, or memory ran out
abbrev pub IsLongFault : FinishFault → Option (List Block) → Primary → ℕ → Type 0
IsLongFault NoMemory frame primary total = Unit {0}
IsLongFault fault frame primary total = (fault ≡ TooLong) × IsLong frame primary total
