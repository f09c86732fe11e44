-- The check values of a bundle's blocks: CRC-16 X-25 and CRC-32C (RFC 9171, section 4.2.1).
use Rattle.std.specs.Prelude.{ℕ, zero, suc, ◌+◌, ◌*◌, ◌/◌, ◌%◌, Bool, true, not, ◌==◌, ◌||◌, if◌then◌else◌, List, [], ◌∷◌, ◌++◌, map, replicate, reverse, length, IsTrue}
use Rattle.std.specs.Int.{w16, w32, to_be_bytes}
use Rattle.gf2_polynomial.specs.Polynomial.{polynomial_sum}
use Rattle.bp_crc.specs.Polynomial.{raised, remainder}
use Rattle.bp_crc.specs.declared.kind.CheckKind.{CheckKind}
use Rattle.bp_crc.specs.declared.kind.CheckKind.TheVariants.{None, Crc16, Crc32c}

-- the bits of a check value: 16 for CRC-16 X-25, 32 for CRC-32C
abbrev pub IsWidth : ℕ → Type 0
IsWidth w = IsTrue ((w == 16) || (w == 32))

-- so many low bits of a number, the least significant first
unfoldable pub bits_of : ℕ → ℕ → List Bool
bits_of zero n = []
bits_of (suc k) n = (n % 2 == 1) ∷ bits_of k (n / 2)

-- the number that has these bits, the least significant first
unfoldable pub number_of : List Bool → ℕ
number_of [] = 0
number_of (b ∷ bs) = number_of bs * 2 + (if b then 1 else 0)

-- The divisor below its leading coefficient: x^12 + x^5 + 1 under x^16 (ITU-T X.25, section 2.2.7.4), and the terms of
-- 0x1edc6f41 under x^32 (RFC 4960, appendix B). Each number has the lowest power as its least significant bit.
unfoldable pub generator : ℕ → List Bool
generator w = reverse (bits_of w (if w == 16 then 0x1021 else 0x1edc6f41))

-- the bits in the order in which they are sent, each byte's least significant bit first
unfoldable pub message_bits : List ℕ → List Bool
message_bits [] = []
message_bits (byte ∷ rest) = bits_of 8 byte ++ message_bits rest

-- M x^w + L x^n, where M has the n bits of the bytes as its coefficients, and L is the sum of all powers below w (ITU-T
-- X.25, section 2.2.7.4)
unfoldable pub dividend : ℕ → List ℕ → List Bool
dividend w bytes =
    let message = message_bits bytes in
    polynomial_sum (raised message w) (raised (replicate w true) (length message))

-- The check value of w bits over the bytes: the complement of the remainder, whose highest power is the number's least
-- significant bit.
unfoldable pub check : ℕ → List ℕ → ℕ
check w bytes = number_of (map not (remainder (generator w) (dividend w bytes)))

-- The check value as it stands in a block: no bytes, or 2 or 4 bytes in network order (RFC 9171, section 4.2.1).
abbrev pub check_bytes : CheckKind → List ℕ → List ℕ
check_bytes None bytes = []
check_bytes Crc16 bytes = to_be_bytes w16 (check 16 bytes)
check_bytes Crc32c bytes = to_be_bytes w32 (check 32 bytes)
