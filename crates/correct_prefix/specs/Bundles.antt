-- What stands before and behind the token at which reading a bundle stops.
use Rattle.std.specs.Prelude.{◌≡◌, ◌≢◌, ℕ, ◌-◌, ◌≤◌, IsTrue, List, length, take, drop}
use Rattle.std.specs.List.{All, AllPairs, HoldsAt}
use Rattle.bp_primary.specs.Spelling.{IsPrimary}
use Rattle.bp_blocks.specs.Spelling.{IsBlock}
use Rattle.bp_bundle.specs.Shape.{Contents}
use Rattle.bp_bundle.specs.Spelling.{IsPayload, IsNumbered, is_single, spelling, Spells}
use Rattle.correct_prefix.specs.Prefix as prefix
use Rattle.correct_prefix.specs.Prefix.{IsToken, IsUnfinished}

-- What a bundle keeps by RFC 9171, section 4, aside from this profile's limits on blocks and bytes.
pub record IsUnlimited (bundle : Contents) : Type 0 where
  pub primary : IsPrimary bundle.primary
  pub blocks : All IsBlock bundle.blocks
  pub some : 1 ≤ length bundle.blocks
  pub numbered : All IsNumbered bundle.blocks
  pub distinct : AllPairs (λ a b. a.number ≢ b.number) bundle.blocks
  pub once : AllPairs (λ a b. IsTrue (is_single a.kind) → a.kind ≢ b.kind) bundle.blocks
  pub payload_last : HoldsAt IsPayload bundle.blocks (length bundle.blocks - 1)

-- the spelling of some such bundle
abbrev pub IsSpelled : List ℕ → Type 0
IsSpelled text = (bundle : Contents) × IsUnlimited bundle × (text ≡ spelling bundle)

-- The bytes so far begin a spelling, but for the head of a text too short at their end.
abbrev pub IsCorrect : List ℕ → Type 0
IsCorrect front = prefix.IsCorrect IsSpelled front

-- The bytes are a correct beginning, and behind it a token that isn't whole.
abbrev pub IsCut : List ℕ → Type 0
IsCut bytes =
    (place : ℕ) × (place ≤ length bytes) × IsCorrect (take place bytes)
    × IsUnfinished IsSpelled (take place bytes) (drop place bytes)

-- Behind these bytes stands a token with which no bundle's spelling begins.
abbrev pub IsFaulty : List ℕ → List ℕ → Type 0
IsFaulty front rest = prefix.IsFaulty (λ text. (bundle : Contents) × Spells bundle text) IsToken front rest
