-- The remainder as the number that is kept while bytes are fed, and the tables of the bytes' remainders.
use Rattle.std.specs.Prelude.{◌≡◌, ℕ, ◌+◌, ◌*◌, ◌<◌, List, [], slice_index, slice_index_or}
use Rattle.bp_crc.specs.Polynomial.{raised, remainder}
use Rattle.bp_crc.specs.Check.{bits_of, number_of, generator, dividend}

-- the remainder over the bytes so far, not yet complemented
unfoldable pub register_of : ℕ → List ℕ → ℕ
register_of w bytes = number_of (remainder (generator w) (dividend w bytes))

-- the remainder of so many bits with zero bytes behind them, times x^w
unfoldable pub bits_remainder : ℕ → ℕ → ℕ → ℕ → ℕ
bits_remainder w size zeros n = number_of (remainder (generator w) (raised (bits_of size n) (8 * zeros + w)))

-- Four tables of the remainders of the 256 bytes. Behind the bytes of the first stand so many words of four zero bytes,
-- and behind those of each further one stands a zero byte more.
abbrev pub AreTables : ℕ → ℕ → List (List ℕ) → Type 0
AreTables w words tables =
    (zeros byte : ℕ) → zeros < 4 → byte < 256
    → slice_index (slice_index_or tables zeros []) byte ≡ bits_remainder w 8 (4 * words + zeros) byte
