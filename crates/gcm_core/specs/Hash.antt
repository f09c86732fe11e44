-- The hash function GHASH (NIST SP 800-38D, section 6.4). Its subkey and its values are blocks as polynomials.
use Rattle.std.specs.Prelude.{◌≡◌, ℕ, zero, suc, ◌-◌, ◌*◌, ◌/◌, ◌%◌, Bool, List, ◌++◌, length, take, drop, replicate}
use Rattle.gcm_core.specs.Polynomial.{polynomial_sum}
use Rattle.gcm_core.specs.Block.{bits, polynomial_of, block_product}

-- block n of the bytes, from 0, as a polynomial
abbrev pub block_at : List ℕ → ℕ → List Bool
block_at bytes n = polynomial_of (take 16 (drop (16 * n) bytes))

-- the hash of the first n blocks, under the subkey h: Y = 0, and Y becomes (Y + X) h for each block X
unfoldable pub hash_of_blocks : List Bool → List ℕ → ℕ → List Bool
hash_of_blocks h bytes zero = bits 128 0
hash_of_blocks h bytes (suc n) = block_product (polynomial_sum (hash_of_blocks h bytes n) (block_at bytes n)) h

-- the hash of bytes that are whole blocks
abbrev pub ghash : List Bool → List ℕ → List Bool
ghash h bytes = hash_of_blocks h bytes (length bytes / 16)

-- the bytes, filled with zero bytes to whole blocks (7.1, steps 2 and 4)
abbrev pub filled : List ℕ → List ℕ
filled bytes = bytes ++ replicate ((16 - length bytes % 16) % 16) 0

-- the number's 128 bits are the hash of these bytes, which are whole blocks
pub record Hashes (h : List Bool) (bytes : List ℕ) (number : ℕ) : Type 0 where
  pub whole : length bytes % 16 ≡ 0
  pub hash : bits 128 number ≡ ghash h bytes

-- a block multiplied by h k times
unfoldable pub times_power : List Bool → ℕ → List Bool → List Bool
times_power h zero p = p
times_power h (suc k) p = block_product (times_power h k p) h

-- the sum of the first n of m blocks, each multiplied by h as often as there are blocks from it on: X1 h^m + X2 h^(m-1) + ..
unfoldable pub power_sum : List Bool → List ℕ → ℕ → ℕ → List Bool
power_sum h bytes m zero = bits 128 0
power_sum h bytes m (suc n) = polynomial_sum (power_sum h bytes m n) (times_power h (m - n) (block_at bytes n))
