-- What division means, apart from how it is done.
use Rattle.std.specs.Prelude.{◌≡◌, Bool, true, false, List, ◌∷◌, ◌++◌, replicate, length}
use Rattle.gf2_polynomial.specs.Polynomial.{polynomial_sum, polynomial_product}

-- The dividend is a product of the divisor and a quotient, plus a remainder r of fewer coefficients. The divisor's
-- leading coefficient is one, and its others are `low`.
pub record IsDivision (low dividend r : List Bool) : Type 0 where
  pub quotient : List Bool
  pub lower : length r ≡ length low
  pub whole : dividend ≡ polynomial_sum (polynomial_product quotient (true ∷ low)) (replicate (length quotient) false ++ r)
