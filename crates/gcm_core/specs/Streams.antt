-- GHASH in sixteen streams: block n of a text goes to stream n mod 16. Sixteen registers of 16 bytes hold the streams:
-- byte b of stream j is byte j of register b, at place 16 b + j of them all.
use Rattle.std.specs.Prelude.{◌≡◌, ℕ, zero, suc, ◌+◌, ◌-◌, ◌*◌, ◌/◌, ◌%◌, ◌^◌, ◌<◌, ◌==◌, Bool, if◌then◌else◌, List, map, bit_xor, slice_index}
use Rattle.std.specs.List.{range_with_len}
use Rattle.gcm_core.specs.Block.{bits, block_of, block_product}

-- the 16 bytes of stream j
unfoldable pub stream_in : List ℕ → ℕ → List ℕ
stream_in registers j = map (λ b. slice_index registers (16 * b + j)) (range_with_len 0 16)

-- the sum of f 0 to f (n - 1), bit by bit
unfoldable pub sum_below : ℕ → (ℕ → ℕ) → ℕ
sum_below zero f = 0
sum_below (suc n) f = bit_xor (sum_below n f) (f n)

-- half byte q of a byte: the upper one for an even q, the lower one for an odd q
abbrev pub half_byte : ℕ → ℕ → ℕ
half_byte q byte = if q % 2 == 0 then byte / 16 else byte % 16

-- the block whose half byte q, from the left, is m, and whose others are 0
abbrev pub half_byte_block : ℕ → ℕ → List Bool
half_byte_block q m = bits 128 (m * 2 ^ (4 * (31 - q)))

-- entry m of the row for half byte q and byte b is byte b of the product of h and the block whose half byte q is m, and
-- whose others are 0
pub record HasProducts (h : List Bool) (table : List ℕ) : Type 0 where
  pub product : (q b m : ℕ) → q < 32 → b < 16 → m < 16
      → slice_index table (256 * q + (16 * b + m)) ≡ slice_index (block_of (block_product (half_byte_block q m) h)) b
