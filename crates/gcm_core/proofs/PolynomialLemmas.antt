-- Laws of remainders of polynomials over two elements. Those of sums and products stand in gf2_polynomial.
use Rattle.std.proofs.Common.{◌≡◌, ℕ, zero, suc, ◌+◌, ◌≤◌, Bool, false, List, [], ◌∷◌, ◌++◌, length, take, replicate, refl, sym, ap, ◌∙◌, arith, length-append}
use Rattle.std.proofs.lemmas.List.{length-replicate, length-take-le, append-nil, take-replicate}
use Rattle.std.proofs.Math.Seq.{take-append-add}
use Rattle.gf2_polynomial.proofs.Sums.{take-sum, scaled-xor}
pub use Rattle.gf2_polynomial.proofs.Sums.{xor_zero, coefficient-sum, length-sum, sum_nil, sum_comm, sum_assoc, sum_swap, sum_zeros, zeros_sum, sum_self, scaled_false, scaled_true, length-scaled}
pub use Rattle.gf2_polynomial.proofs.Products.{product-sum}
use Rattle.gcm_core.specs.Polynomial.{coefficient, polynomial_sum, polynomial_scaled, polynomial_product, reduced, remainder}

pub length-reduced : (low p : List Bool) → length low ≤ length p → length (reduced low p) ≡ length low
unfolding reduced
length-reduced low p h =
    length-sum (take (length low) p) (polynomial_scaled (coefficient p (length low)) low) (length low)
    (length-take-le (length low) p h) (length-scaled (coefficient p (length low)) low)

pub length-remainder : (low p : List Bool) → length (remainder low p) ≡ length low
unfolding remainder
length-remainder low [] = length-replicate (length low) false
length-remainder low (a ∷ p) = length-reduced low (a ∷ remainder low p) (omega (arith, length-remainder low p))

pub reduced-sum : (low p q : List Bool) → reduced low (polynomial_sum p q) ≡ polynomial_sum (reduced low p) (reduced low q)
unfolding reduced
reduced-sum low p q =
    rw (
      take-sum (length low) p q,
      coefficient-sum p q (length low),
      scaled-xor (coefficient p (length low)) (coefficient q (length low))
          low,
    )
    (sum_swap (take (length low) p) (take (length low) q) (polynomial_scaled (coefficient p (length low)) low)
    (polynomial_scaled (coefficient q (length low)) low))

pub remainder-sum : (low p q : List Bool) → remainder low (polynomial_sum p q) ≡ polynomial_sum (remainder low p) (remainder low q)
unfolding remainder
remainder-sum low [] q = sym (zeros_sum (remainder low q) (length low) (length-remainder low q))
remainder-sum low (a ∷ p) [] = sym (sum_zeros (remainder low (a ∷ p)) (length low) (length-remainder low (a ∷ p)))
remainder-sum low (a ∷ p) (b ∷ q) =
    rw (remainder-sum low p q) (reduced-sum low (a ∷ remainder low p) (b ∷ remainder low q))

-- a polynomial that is filled up with zero coefficients has no others
coefficient_padded : (p : List Bool) (k i : ℕ) → length p ≤ i → coefficient (p ++ replicate k false) i ≡ false
coefficient_padded [] zero i h = refl
coefficient_padded [] (suc k) zero h = refl
coefficient_padded [] (suc k) (suc i) h = coefficient_padded [] k i (omega arith)
coefficient_padded (a ∷ p) k zero h = absurd (omega arith)
coefficient_padded (a ∷ p) k (suc i) h = coefficient_padded p k i (omega arith)

take_padded : (p : List Bool) (k j : ℕ) → j ≤ k → take (length p + j) (p ++ replicate k false) ≡ p ++ replicate j false
take_padded p k j h = take-append-add p (replicate k false) j ∙ ap (λ (t : List Bool). p ++ t) (take-replicate j k false h)

-- a short polynomial is its own remainder, filled up with zero coefficients
remainder_short : (low p : List Bool) (k : ℕ) → length p + k ≡ length low → remainder low p ≡ p ++ replicate k false
unfolding remainder reduced
remainder_short low [] k h = ap (λ (n : ℕ). replicate n false) (sym h ∙ omega arith)
remainder_short low (a ∷ p) k h =
    let rest : remainder low p ≡ p ++ replicate (suc k) false = remainder_short low p (suc k) (omega arith) in
    let top : coefficient (a ∷ (p ++ replicate (suc k) false)) (length low) ≡ false =
    coefficient_padded (a ∷ p) (suc k) (length low) (omega arith) in
    let front : take (length low) (a ∷ (p ++ replicate (suc k) false)) ≡ a ∷ (p ++ replicate k false) =
    ap (λ (n : ℕ). take n (a ∷ (p ++ replicate (suc k) false))) (sym h) ∙ take_padded (a ∷ p) (suc k) k (omega arith) in
    let len : length (a ∷ (p ++ replicate k false)) ≡ length low =
    omega (arith, length-append p (replicate k false), length-replicate k false) in
    rw (rest, top, front, scaled_false low) (sum_zeros (a ∷ (p ++ replicate k false)) (length low) len)

-- a polynomial of as many coefficients as the remainders is its own remainder
pub remainder_same : (low p : List Bool) → length p ≡ length low → remainder low p ≡ p
remainder_same low p h = remainder_short low p 0 (omega arith) ∙ append-nil p

-- the remainder of a product, by the last factor's multiples
pub remainder_product : (low : List Bool) (a : Bool) (p q : List Bool) → length q ≡ length low
    → remainder low (polynomial_product (a ∷ p) q)
    ≡ polynomial_sum (polynomial_scaled a q) (reduced low (false ∷ remainder low (polynomial_product p q)))
unfolding remainder
remainder_product low a p q h =
    remainder-sum low (polynomial_scaled a q) (false ∷ polynomial_product p q)
    ∙ ap (λ (t : List Bool). polynomial_sum t (reduced low (false ∷ remainder low (polynomial_product p q))))
    (remainder_same low (polynomial_scaled a q) (length-scaled a q ∙ h))
