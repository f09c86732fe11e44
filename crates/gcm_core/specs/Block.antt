-- Blocks of 16 bytes as polynomials, and their product (NIST SP 800-38D, section 6.3).
use Rattle.std.specs.Prelude.{ℕ, zero, suc, ◌+◌, ◌/◌, ◌%◌, ◌^◌, ◌==◌, Bool, true, false, if◌then◌else◌, List, [], ◌∷◌, ◌++◌, replicate}
use Rattle.gcm_core.specs.Polynomial.{polynomial_product, remainder}

-- the lowest k bits of a number, the leftmost first
unfoldable pub bits : ℕ → ℕ → List Bool
bits zero n = []
bits (suc k) n = (n / 2 ^ k % 2 == 1) ∷ bits k n

-- A block as a polynomial (6.3): the leftmost bit of the first byte is the coefficient of x ^ 0.
abbrev pub polynomial_of : List ℕ → List Bool
polynomial_of [] = []
polynomial_of (byte ∷ bytes) = bits 8 byte ++ polynomial_of bytes

-- what a coefficient is worth in a byte
abbrev pub worth : ℕ → Bool → ℕ
worth n b = if b then n else 0

-- the block of a polynomial: each eight coefficients are a byte
abbrev pub block_of : List Bool → List ℕ
block_of (a ∷ b ∷ c ∷ d ∷ e ∷ f ∷ g ∷ h ∷ p) =
    (worth 128 a + worth 64 b + worth 32 c + worth 16 d + worth 8 e + worth 4 f + worth 2 g + worth 1 h) ∷ block_of p
block_of _ = []

-- the modulus is x ^ 128 + x ^ 7 + x ^ 2 + x + 1: its terms below x ^ 128 (6.3)
unfoldable pub low_terms : List Bool
low_terms = true ∷ true ∷ true ∷ false ∷ false ∷ false ∷ false ∷ true ∷ replicate 120 false

-- the product of two blocks as polynomials (6.3)
unfoldable pub block_product : List Bool → List Bool → List Bool
block_product p q = remainder low_terms (polynomial_product p q)
