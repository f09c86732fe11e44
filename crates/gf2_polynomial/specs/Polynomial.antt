-- Polynomials over the field of two elements. A polynomial is the list of its coefficients in the order of their powers,
-- and `true` is the coefficient one. The powers rise along the list, or they fall: the definitions serve both, as long as
-- all lists go one way. Lists that are added begin at one power, and what a list hasn't is zero.
use Rattle.std.specs.Prelude.{ℕ, Bool, true, false, not, ◌&&◌, List, [], ◌∷◌, map, slice_index_or}

-- the coefficient at place i
abbrev pub coefficient : List Bool → ℕ → Bool
coefficient p i = slice_index_or p i false

-- the sum of two coefficients, and their difference
abbrev pub coefficient_sum : Bool → Bool → Bool
coefficient_sum false b = b
coefficient_sum true b = not b

-- p + q
abbrev pub polynomial_sum : List Bool → List Bool → List Bool
polynomial_sum [] q = q
polynomial_sum (a ∷ p) [] = a ∷ p
polynomial_sum (a ∷ p) (b ∷ q) = coefficient_sum a b ∷ polynomial_sum p q

-- a q, for a coefficient a
abbrev pub polynomial_scaled : Bool → List Bool → List Bool
polynomial_scaled a q = map (λ b. a && b) q

-- p q, term by term of p. Where p and q begin at x ^ m and x ^ n, it begins at x ^ (m + n).
abbrev pub polynomial_product : List Bool → List Bool → List Bool
polynomial_product [] q = []
polynomial_product (a ∷ p) q = polynomial_sum (polynomial_scaled a q) (false ∷ polynomial_product p q)
