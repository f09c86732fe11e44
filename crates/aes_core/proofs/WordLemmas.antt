-- The state in words: the bytes of a word, sums of words, and a state from its columns.
use Rattle.std.proofs.Common.{◌≡◌, ℕ, zero, suc, ◌/◌, ◌%◌, ◌^◌, ◌<◌, ◌++◌, [], ◌∷◌, get_or, refl, ap, ◌∙◌, arith}
use Rattle.std.specs.Int.{w32, byte_at, to_le_bytes, from_le_bytes}
use Rattle.std.specs.Int.Bits.{bit_xor, xor_shr}
use Rattle.std.proofs.lemmas.Nat.{xor_mod, le_bytes_4}
use Rattle.aes_core.specs.State.{state_of, column_of}
use Rattle.aes_core.specs.Words.{IsColumn, state_in}

-- ---- a word

-- four bytes, read as a word
pub word_from : (f : ℕ → ℕ) → ((r : ℕ) → f r < 256) → IsColumn (from_le_bytes w32 (column_of f)) f
word_from f h = le_bytes_4 (column_of f) (from_le_bytes w32 (column_of f)) refl below refl where
  below : (i : ℕ) → get_or (column_of f) i 0 < 256
  below zero = h 0
  below (suc zero) = h 1
  below (suc (suc zero)) = h 2
  below (suc (suc (suc zero))) = h 3
  below (suc (suc (suc (suc i)))) = omega arith

-- ---- sums

row_of_sum : (x y m : ℕ) → bit_xor x y / 2 ^ m % 2 ^ 8 ≡ bit_xor (x / 2 ^ m % 2 ^ 8) (y / 2 ^ m % 2 ^ 8)
row_of_sum x y m = ap (λ z. z % 2 ^ 8) (xor_shr x y m) ∙ xor_mod (x / 2 ^ m) (y / 2 ^ m) 8

rows_of_sum : (x y : ℕ) → IsColumn (bit_xor x y) (λ r. bit_xor (byte_at r x) (byte_at r y))
rows_of_sum x y =
    let z : ℕ → ℕ = λ r. byte_at r (bit_xor x y) in
    let s : ℕ → ℕ = λ r. bit_xor (byte_at r x) (byte_at r y) in
    ap (λ t. t ∷ z 1 ∷ z 2 ∷ z 3 ∷ []) (xor_mod x y 8)
    ∙ ap (λ t. s 0 ∷ t ∷ z 2 ∷ z 3 ∷ []) (row_of_sum x y 8)
    ∙ ap (λ t. s 0 ∷ s 1 ∷ t ∷ z 3 ∷ []) (row_of_sum x y 16)
    ∙ ap (λ t. s 0 ∷ s 1 ∷ s 2 ∷ t ∷ []) (row_of_sum x y 24)

-- the sum of two columns
pub column_sum : (x y : ℕ) (f g : ℕ → ℕ) → IsColumn x f → IsColumn y g
    → IsColumn (bit_xor x y) (λ r. bit_xor (f r) (g r))
column_sum x y f g p q =
    rows_of_sum x y ∙ ap (λ l. column_of (λ r. bit_xor (get_or l r 0) (byte_at r y))) p
    ∙ ap (λ l. column_of (λ r. bit_xor (f r) (get_or l r 0))) q

-- ---- a state

-- the state of four columns
pub state_from : (f : ℕ → ℕ → ℕ) (a b c d : ℕ) → IsColumn a (λ r. f r 0) → IsColumn b (λ r. f r 1)
    → IsColumn c (λ r. f r 2) → IsColumn d (λ r. f r 3) → state_in (a ∷ b ∷ c ∷ d ∷ []) ≡ state_of f
unfolding state_in state_of
state_from f a b c d p q r s =
    ap (λ l. l ++ (to_le_bytes w32 b ++ (to_le_bytes w32 c ++ to_le_bytes w32 d))) p
    ∙ ap (λ l. column_of (λ r. f r 0) ++ (l ++ (to_le_bytes w32 c ++ to_le_bytes w32 d))) q
    ∙ ap (λ l. column_of (λ r. f r 0) ++ (column_of (λ r. f r 1) ++ (l ++ to_le_bytes w32 d))) r
    ∙ ap (λ l. column_of (λ r. f r 0) ++ (column_of (λ r. f r 1) ++ (column_of (λ r. f r 2) ++ l))) s
