-- A product is additive in both factors.
use Rattle.std.proofs.Common.{◌≡◌, false, Bool, List, [], ◌∷◌, refl, sym}
use Rattle.gf2_polynomial.specs.Polynomial.{polynomial_sum, polynomial_scaled, polynomial_product}
use Rattle.gf2_polynomial.proofs.Sums.{sum_nil, sum_swap, scaled-xor, scaled-sum}

pub product-sum : (p q m : List Bool)
    → polynomial_product (polynomial_sum p q) m ≡ polynomial_sum (polynomial_product p m) (polynomial_product q m)
product-sum [] q m = refl
product-sum (a ∷ p) [] m = sym (sum_nil (polynomial_product (a ∷ p) m))
product-sum (a ∷ p) (b ∷ q) m =
    rw (scaled-xor a b m, product-sum p q m)
    (sum_swap (polynomial_scaled a m) (polynomial_scaled b m) (false ∷ polynomial_product p m) (false ∷ polynomial_product q m))

pub sum-product : (m p q : List Bool)
    → polynomial_product m (polynomial_sum p q) ≡ polynomial_sum (polynomial_product m p) (polynomial_product m q)
sum-product [] p q = refl
sum-product (a ∷ m) p q =
    rw (scaled-sum a p q, sum-product m p q)
    (sum_swap (polynomial_scaled a p) (polynomial_scaled a q) (false ∷ polynomial_product m p) (false ∷ polynomial_product m q))
