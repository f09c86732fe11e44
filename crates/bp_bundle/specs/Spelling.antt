-- The spelling of a bundle: RFC 9171, section 4.
use Rattle.std.specs.Prelude.{◌≡◌, ◌≢◌, ◌↔◌, ℕ, ◌-◌, ◌≤◌, ◌==◌, ◌||◌, Bool, IsTrue, List, [], ◌∷◌, ◌++◌, length}
use Rattle.std.specs.List.{All, AllPairs, HoldsAt, flat_map}
use Rattle.cbor_profile.specs.declared.TheConstants.{BUNDLE_LIMIT}
use Rattle.bp_primary.specs.Spelling as primaries
use Rattle.bp_primary.specs.Spelling.{IsPrimary}
use Rattle.bp_blocks.specs.declared.block.Block.{Block}
use Rattle.bp_blocks.specs.Spelling as blocks
use Rattle.bp_blocks.specs.Spelling.{IsBlock}
use Rattle.bp_bundle.specs.Shape.{Contents}

-- An array of indefinite length: the byte 9f, the primary block, the canonical blocks in their order, and the byte ff
-- (section 4.1; RFC 8949, section 3.2.2).
unfoldable pub spelling : Contents → List ℕ
spelling bundle = 0x9f ∷ (primaries.spelling bundle.primary ++ flat_map blocks.spelling bundle.blocks ++ 0xff ∷ [])

-- ---- what a bundle keeps

-- The payload block has the type 1 and the number 1 (section 4.3.3).
abbrev pub IsPayload : Block → Type 0
IsPayload block = (block.kind ≡ 1) × (block.number ≡ 1)

-- No canonical block has the number 0, which means the primary block, and just the payload block has the number 1 (section
-- 4.1).
abbrev pub IsNumbered : Block → Type 0
IsNumbered block = (block.number ≢ 0) × ((block.kind ≡ 1) ↔ (block.number ≡ 1))

-- the types of which a bundle has one block at most: previous node, bundle age, hop count (section 4.4)
abbrev pub is_single : ℕ → Bool
is_single kind = (kind == 6) || ((kind == 7) || (kind == 10))

-- A bundle is a primary block and 1 to 64 canonical blocks (section 4.1). The limits on blocks and bytes are this profile's.
pub record IsBundle (bundle : Contents) : Type 0 where
  pub primary : IsPrimary bundle.primary
  pub blocks : All IsBlock bundle.blocks
  pub some : 1 ≤ length bundle.blocks
  pub few : length bundle.blocks ≤ 64
  pub numbered : All IsNumbered bundle.blocks
  pub distinct : AllPairs (λ a b. a.number ≢ b.number) bundle.blocks
  pub once : AllPairs (λ a b. IsTrue (is_single a.kind) → a.kind ≢ b.kind) bundle.blocks
  pub payload_last : HoldsAt IsPayload bundle.blocks (length bundle.blocks - 1)
  pub within : length (spelling bundle) ≤ BUNDLE_LIMIT

-- The bytes spell the bundle.
abbrev pub Spells : Contents → List ℕ → Type 0
Spells bundle bytes = IsBundle bundle × (bytes ≡ spelling bundle)
