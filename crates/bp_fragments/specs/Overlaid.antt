-- A payload that is known in part, with more bytes.
use Rattle.std.specs.Prelude.{◌≡◌, ℕ, ◌+◌, ◌<◌, ◌≤◌, ◌⊎◌, List, length, Option, Some}
use Rattle.std.specs.List.{slice_get}

-- These bytes are known from this place on, and all others as before.
pub record Overlaid (before : List (Option ℕ)) (offset : ℕ) (piece : List ℕ) (after : List (Option ℕ)) : Type 0 where
  pub len : length after ≡ length before
  pub there : (k byte : ℕ) → slice_get piece k ≡ Some byte → slice_get after (offset + k) ≡ Some (Some byte)
  pub others : (place : ℕ) → (place < offset) ⊎ (offset + length piece ≤ place) → slice_get after place ≡ slice_get before place
