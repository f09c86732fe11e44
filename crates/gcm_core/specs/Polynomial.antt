-- Remainders of polynomials over the field of two elements. A polynomial is the list of its coefficients, that of x ^ 0 first.
use Rattle.std.specs.Prelude.{◌≡◌, ℕ, Bool, true, false, List, [], ◌∷◌, ◌++◌, length, take, replicate}
pub use Rattle.gf2_polynomial.specs.Polynomial.{coefficient, coefficient_sum, polynomial_sum, polynomial_scaled, polynomial_product}

-- the modulus x ^ d + low, where low has d coefficients
abbrev pub modulus : List Bool → List Bool
modulus low = low ++ true ∷ []

-- the remainder modulo x ^ d + low of a polynomial with at most d + 1 coefficients
unfoldable pub reduced : List Bool → List Bool → List Bool
reduced low p = polynomial_sum (take (length low) p) (polynomial_scaled (coefficient p (length low)) low)

-- the remainder modulo x ^ d + low, by: the remainder of a + x p is that of a + x r, where r is the remainder of p
unfoldable pub remainder : List Bool → List Bool → List Bool
remainder low [] = replicate (length low) false
remainder low (a ∷ p) = reduced low (a ∷ remainder low p)

-- r is the remainder of p modulo x ^ d + low: it has d coefficients, and p is a multiple of the modulus plus r
pub record IsRemainder (low p r : List Bool) : Type 0 where
  pub short : length r ≡ length low
  pub multiple : (q : List Bool) × ((i : ℕ) → coefficient p i ≡ coefficient (polynomial_sum (polynomial_product q (modulus low)) r) i)
