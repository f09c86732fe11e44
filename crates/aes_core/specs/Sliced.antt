-- Eight blocks side by side in eight registers of 16 bytes, row by row: bit j of byte 4 r + c of register i is bit i of
-- the byte in row r of column c of block j.
use Rattle.std.specs.Prelude.{◌≡◌, ℕ, ◌+◌, ◌*◌, ◌/◌, ◌%◌, ◌^◌, ◌<◌, ◌++◌, List, [], ◌∷◌, refl, map, replicate, take, bit_and, bit_xor, slice_index, slice_index_or}
use Rattle.std.specs.Int.{bit_at}
use Rattle.aes_core.specs.Field.{times_x}
use Rattle.aes_core.specs.State.{at, state_of}
use Rattle.aes_core.specs.declared.sliced.registers.Registers.{Registers}

-- the bits of a byte, the lowest first
unfoldable pub bits_of : ℕ → List ℕ
bits_of b = bit_at b 0 ∷ bit_at b 1 ∷ bit_at b 2 ∷ bit_at b 3 ∷ bit_at b 4 ∷ bit_at b 5 ∷ bit_at b 6 ∷ bit_at b 7 ∷ []

-- the number with these bits, the lowest first
unfoldable pub byte_of : List ℕ → ℕ
byte_of [] = 0
byte_of (b ∷ bits) = b + 2 * byte_of bits

-- byte p of each register
abbrev pub lane : ℕ → List (List ℕ) → List ℕ
lane p registers = map (λ v. slice_index v p) registers

-- the byte whose bit i is bit j of the i-th of these
unfoldable pub byte_across : ℕ → List ℕ → ℕ
byte_across j bytes = byte_of (map (λ b. bit_at b j) bytes)

-- block j in these registers
unfoldable pub block_in : List (List ℕ) → ℕ → List ℕ
block_in registers j = state_of (λ r c. byte_across j (lane (4 * r + c) registers))

-- the registers in order
abbrev pub registers_of : Registers → List (List ℕ)
registers_of r = r.bit0 ∷ r.bit1 ∷ r.bit2 ∷ r.bit3 ∷ r.bit4 ∷ r.bit5 ∷ r.bit6 ∷ r.bit7 ∷ []

-- block j of eight
abbrev pub block_of : Registers → ℕ → List ℕ
block_of r j = block_in (registers_of r) j

-- ---- the parts of a step

-- the sum of two states, byte by byte
unfoldable pub sum_of : List ℕ → List ℕ → List ℕ
sum_of s t = state_of (λ r c. bit_xor (at s r c) (at t r c))

-- the state whose columns are turned up by n bytes
unfoldable pub turned : ℕ → List ℕ → List ℕ
turned n s = state_of (λ r c. at s ((r + n) % 4) c)

-- x times each byte
unfoldable pub times_x_each : List ℕ → List ℕ
times_x_each s = state_of (λ r c. times_x (at s r c))

-- ---- going in and out

-- the state whose rows are the columns of this one
unfoldable pub flipped : List ℕ → List ℕ
flipped s = state_of (λ r c. at s c r)

-- the bits of `high` at the mask, and those of `low` that stand n higher, differ here
abbrev pub difference_of : ℕ → ℕ → ℕ → ℕ → ℕ
difference_of mask n low high = bit_and (bit_xor (low / 2 ^ n) high) mask

-- `low` after the exchange of those bits
unfoldable pub low_of : ℕ → ℕ → ℕ → ℕ → ℕ
low_of mask n low high = bit_xor low (difference_of mask n low high * 2 ^ n % 256)

-- `high` after that
unfoldable pub high_of : ℕ → ℕ → ℕ → ℕ → ℕ
high_of mask n low high = bit_xor high (difference_of mask n low high)

-- entry i of each of these lists
abbrev pub column : List (List ℕ) → ℕ → List ℕ
column rows i = map (λ row. slice_index row i) rows

-- rows and columns in each other's place, of eight by eight
unfoldable pub columns : List (List ℕ) → List (List ℕ)
columns rows =
    column rows 0 ∷ column rows 1 ∷ column rows 2 ∷ column rows 3 ∷ column rows 4 ∷ column rows 5
    ∷ column rows 6 ∷ column rows 7 ∷ []

-- ---- round keys

-- round key n of the expanded key w, as a state
unfoldable pub round_key : List ℕ → ℕ → List ℕ
round_key w n = state_of (λ r c. slice_index w (16 * n + (r + 4 * c)))

-- registers of zeros
abbrev pub no_registers : Registers
no_registers =
    let zeros = replicate 16 0 in
    record {
      bit0 = zeros;
      bit1 = zeros;
      bit2 = zeros;
      bit3 = zeros;
      bit4 = zeros;
      bit5 = zeros;
      bit6 = zeros;
      bit7 = zeros;
      wide = (refl, refl, refl, refl, refl, refl, refl, refl);
    }

-- the registers at place n
abbrev pub registers_at : List Registers → ℕ → Registers
registers_at keys n = slice_index_or keys n no_registers

-- the first n of these have the round keys of w, each for all eight blocks
abbrev pub AreRoundKeys : List ℕ → ℕ → List Registers → Type 0
AreRoundKeys w n keys = (i : ℕ) → i < n → (j : ℕ) → j < 8 → block_of (registers_at keys i) j ≡ round_key w i

-- the key of nk words, which the expanded key begins with
abbrev pub key_in : ℕ → List Registers → List ℕ
key_in nk keys = take (4 * nk) (block_of (registers_at keys 0) 0 ++ block_of (registers_at keys 1) 0)
