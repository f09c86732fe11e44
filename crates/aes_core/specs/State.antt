-- The state of a block, and what a round does to it (FIPS 197, sections 3.4, 5.1 and 5.3). A state is a list of 16 bytes, and
-- byte n stands in row n mod 4 of column n div 4.
use Rattle.std.specs.Prelude.{ℕ, ◌+◌, ◌-◌, ◌*◌, ◌%◌, List, [], ◌∷◌, bit_xor, slice_index}
use Rattle.aes_core.specs.Field.{product}
use Rattle.aes_core.specs.Boxes.{sub_byte, inverse_sub_byte}

-- the byte of a state in row r of column c
abbrev pub at : List ℕ → ℕ → ℕ → ℕ
at s r c = slice_index s (r + 4 * c)

-- the state with the byte f r c in row r of column c
unfoldable pub state_of : (ℕ → ℕ → ℕ) → List ℕ
state_of f =
    f 0 0 ∷ f 1 0 ∷ f 2 0 ∷ f 3 0 ∷ f 0 1 ∷ f 1 1 ∷ f 2 1 ∷ f 3 1
    ∷ f 0 2 ∷ f 1 2 ∷ f 2 2 ∷ f 3 2 ∷ f 0 3 ∷ f 1 3 ∷ f 2 3 ∷ f 3 3 ∷ []

-- the column with the byte f r in row r
abbrev pub column_of : (ℕ → ℕ) → List ℕ
column_of f = f 0 ∷ f 1 ∷ f 2 ∷ f 3 ∷ []

-- each byte goes through the S-box (5.1.1, SUBBYTES)
unfoldable pub sub_bytes : List ℕ → List ℕ
sub_bytes s = state_of (λ r c. sub_byte (at s r c))

-- row r turns to the left by r (5.1.2, SHIFTROWS)
unfoldable pub shift_rows : List ℕ → List ℕ
shift_rows s = state_of (λ r c. at s r ((c + r) % 4))

-- row r of the column a, times the circulant matrix whose first row is m0 m1 m2 m3
abbrev pub circulant : ℕ → ℕ → ℕ → ℕ → (ℕ → ℕ) → ℕ → ℕ
circulant m0 m1 m2 m3 a r =
    bit_xor (bit_xor (bit_xor (product m0 (a r)) (product m1 (a ((r + 1) % 4)))) (product m2 (a ((r + 2) % 4))))
    (product m3 (a ((r + 3) % 4)))

-- a column times the matrix of 02 03 01 01
abbrev pub mixed : (ℕ → ℕ) → ℕ → ℕ
mixed = circulant 2 3 1 1

-- each column is multiplied by that matrix (5.1.3, MIXCOLUMNS)
unfoldable pub mix_columns : List ℕ → List ℕ
mix_columns s = state_of (λ r c. mixed (λ i. at s i c) r)

-- round key n of the expanded key w, which is its bytes from 16 n on, is added byte by byte (5.1.4, ADDROUNDKEY)
unfoldable pub add_round_key : List ℕ → ℕ → List ℕ → List ℕ
add_round_key w n s = state_of (λ r c. bit_xor (at s r c) (slice_index w (16 * n + (r + 4 * c))))

-- row r turns to the right by r (5.3.1, INVSHIFTROWS)
unfoldable pub inverse_shift_rows : List ℕ → List ℕ
inverse_shift_rows s = state_of (λ r c. at s r ((c + 4 - r) % 4))

-- each byte goes through the inverse of the S-box (5.3.2, INVSUBBYTES)
unfoldable pub inverse_sub_bytes : List ℕ → List ℕ
inverse_sub_bytes s = state_of (λ r c. inverse_sub_byte (at s r c))

-- a column times the matrix of 0e 0b 0d 09
abbrev pub unmixed : (ℕ → ℕ) → ℕ → ℕ
unmixed = circulant 0x0e 0x0b 0x0d 0x09

-- each column is multiplied by that matrix (5.3.3, INVMIXCOLUMNS)
unfoldable pub inverse_mix_columns : List ℕ → List ℕ
inverse_mix_columns s = state_of (λ r c. unmixed (λ i. at s i c) r)
