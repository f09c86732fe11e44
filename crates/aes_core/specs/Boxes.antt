-- The S-box and its inverse (FIPS 197, sections 5.1.1 and 5.3.2).
use Rattle.std.specs.Prelude.{ℕ, zero, suc, ◌+◌, ◌*◌, ◌%◌, ◌^◌, ◌==◌, if◌then◌else◌}
use Rattle.std.specs.Int.{bit_at}
use Rattle.aes_core.specs.Field.{inverse}

-- bit i of the affine map of b: the sum of its bits i, i + 4, i + 5, i + 6 and i + 7, taken modulo 8, and of bit i of 63
-- (5.1.1)
abbrev pub affine_bit : ℕ → ℕ → ℕ
affine_bit b i =
    (bit_at b i + bit_at b ((i + 4) % 8) + bit_at b ((i + 5) % 8) + bit_at b ((i + 6) % 8) + bit_at b ((i + 7) % 8)
    + bit_at 0x63 i) % 2

-- the byte whose n lowest bits are those of the affine map of b, and whose others are 0
abbrev pub affine_bits : ℕ → ℕ → ℕ
affine_bits b zero = 0
affine_bits b (suc n) = affine_bits b n + affine_bit b n * 2 ^ n

-- the S-box: the affine map of the inverse (5.1.1, SBOX)
unfoldable pub sub_byte : ℕ → ℕ
sub_byte b = affine_bits (inverse b) 8

-- the byte below n whose S-box value is s, or 0 where there is none
unfoldable pub byte_with_value : ℕ → ℕ → ℕ
byte_with_value s zero = 0
byte_with_value s (suc n) = if sub_byte n == s then n else byte_with_value s n

-- the inverse of the S-box: the byte whose S-box value is s (5.3.2, INVSBOX)
unfoldable pub inverse_sub_byte : ℕ → ℕ
inverse_sub_byte s = byte_with_value s 256
