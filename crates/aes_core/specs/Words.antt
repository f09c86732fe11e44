-- The state as four words of 32 bits, one for each column: byte r of a word, from the lowest on, stands in row r.
use Rattle.std.specs.Prelude.{◌≡◌, ℕ, ◌<◌, List, [], slice_index, slice_index_or}
use Rattle.std.specs.Int.{w32, byte_at, to_le_bytes}
use Rattle.aes_core.specs.State.{state_of, column_of, inverse_mix_columns}
use Rattle.aes_core.specs.Sliced.{round_key}

-- the word is the column with the byte f r in row r
abbrev pub IsColumn : ℕ → (ℕ → ℕ) → Type 0
IsColumn word f = to_le_bytes w32 word ≡ column_of f

-- the state with these words as its columns
unfoldable pub state_in : List ℕ → List ℕ
state_in words = state_of (λ r c. byte_at r (slice_index words c))

-- the first n of these are the round keys of the expanded key w, each multiplied by the inverse matrix (5.3.5)
abbrev pub AreInverseKeys : List ℕ → ℕ → List (List ℕ) → Type 0
AreInverseKeys w n keys = (i : ℕ) → i < n → state_in (slice_index_or keys i []) ≡ inverse_mix_columns (round_key w i)
