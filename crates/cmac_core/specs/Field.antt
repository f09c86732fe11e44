-- The field of 2^128 elements (RFC 4493, section 2.3; the polynomial is that of NIST SP 800-38B, section 5.3). An element is
-- a polynomial of 128 coefficients, the highest power first: the leftmost bit of a block is the coefficient of x^127.
use Rattle.std.specs.Prelude.{◌≡◌, ℕ, zero, suc, ◌+◌, ◌/◌, ◌%◌, ◌^◌, ◌==◌, if◌then◌else◌, Bool, true, false, List, [], ◌∷◌, ◌++◌, length, drop, replicate}
use Rattle.std.specs.Int.{w128, from_be_bytes, to_be_bytes}
use Rattle.gf2_polynomial.specs.Polynomial.{coefficient, polynomial_sum, polynomial_scaled, polynomial_product}

-- ---- blocks as polynomials

-- the lowest k bits of a number, the leftmost first
unfoldable pub bits : ℕ → ℕ → List Bool
bits zero n = []
bits (suc k) n = (n / 2 ^ k % 2 == 1) ∷ bits k n

-- the number that has these bits, the leftmost first
unfoldable pub number_of : List Bool → ℕ
number_of [] = 0
number_of (bit ∷ rest) = (if bit then 2 ^ length rest else 0) + number_of rest

-- a block of 16 bytes as a polynomial
abbrev pub polynomial_of : List ℕ → List Bool
polynomial_of block = bits 128 (from_be_bytes w128 block)

-- the block of a polynomial
abbrev pub block_of : List Bool → List ℕ
block_of p = to_be_bytes w128 (number_of p)

-- ---- the product by x

-- the polynomial x
abbrev pub x : List Bool
x = true ∷ false ∷ []

-- x^128 + x^7 + x^2 + x + 1
unfoldable pub modulus : List Bool
modulus = true ∷ replicate 120 false ++ true ∷ false ∷ false ∷ false ∷ false ∷ true ∷ true ∷ true ∷ []

-- the remainder modulo it of a polynomial that begins at x^128
unfoldable pub reduced : List Bool → List Bool
reduced p = drop 1 (polynomial_sum p (polynomial_scaled (coefficient p 0) modulus))

-- x p, in the field
unfoldable pub product_by_x : List Bool → List Bool
product_by_x p = reduced (polynomial_product x p)

-- r is x p in the field: it has 128 coefficients, and x p is a multiple of the modulus plus r. Both begin at x^128.
pub record IsProductByX (p r : List Bool) : Type 0 where
  pub short : length r ≡ 128
  pub multiple : (q : Bool) × (polynomial_product x p ≡ polynomial_sum (polynomial_scaled q modulus) (false ∷ r))

-- the product of a block and x
abbrev pub times_x : List ℕ → List ℕ
times_x block = block_of (product_by_x (polynomial_of block))
