-- Long division of polynomials over the field of two elements. A polynomial is the list of its coefficients, the highest
-- power first.
use Rattle.std.specs.Prelude.{ℕ, zero, suc, ◌-◌, Bool, true, false, List, [], ◌∷◌, ◌++◌, replicate, length}
use Rattle.gf2_polynomial.specs.Polynomial.{polynomial_sum}

-- a polynomial times x ^ k
abbrev pub raised : List Bool → ℕ → List Bool
raised p k = p ++ replicate k false

-- One step of long division by the divisor whose leading coefficient is one and whose others are `low`. Where the
-- dividend's leading coefficient is one, the divisor is taken away under it. It is zero then, and falls away.
unfoldable pub reduced : List Bool → List Bool → List Bool
reduced low [] = []
reduced low (false ∷ rest) = rest
reduced low (true ∷ rest) = polynomial_sum low rest

-- what is left of the dividend after so many steps
unfoldable pub divided : List Bool → ℕ → List Bool → List Bool
divided low zero dividend = dividend
divided low (suc n) dividend = divided low n (reduced low dividend)

-- the remainder: the steps of long division until no more coefficients are left than the divisor has below its leading one
unfoldable pub remainder : List Bool → List Bool → List Bool
remainder low dividend = divided low (length dividend - length low) dividend
