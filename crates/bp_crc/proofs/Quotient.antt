-- Long division leaves the remainder of a quotient, and no other list is one.
use Rattle.std.proofs.Common.{◌≡◌, ℕ, zero, suc, ◌+◌, ◌-◌, ◌≤◌, Bool, true, false, ◌&&◌, List, [], ◌∷◌, ◌++◌, length, replicate, refl, sym, ap, ◌∙◌, arith}
use Rattle.gf2_polynomial.specs.Polynomial.{coefficient_sum, polynomial_sum, polynomial_scaled, polynomial_product}
use Rattle.gf2_polynomial.proofs.Sums.{sum_assoc, sum_twice, zeros_within, scaled_false, scaled_true, length-scaled, length-sum_max}
use Rattle.bp_crc.specs.Polynomial.{reduced, divided, remainder}
use Rattle.bp_crc.specs.Division.{IsDivision}
use Rattle.bp_crc.proofs.Lengths.{length-reduced, length-remainder, remainder-divided}

-- a step takes away what was added
reduced-added : (c : Bool) (low q : List Bool) → length low ≤ length q
    → reduced low (c ∷ polynomial_sum (polynomial_scaled c low) q) ≡ q
unfolding reduced
reduced-added false low q h = rw (scaled_false low) (zeros_within (length low) q h)
reduced-added true low q h = rw (scaled_true low) (sum_twice low q h)

-- and what a step takes away can be added again
added-reduced : (c : Bool) (low rest : List Bool) → length low ≤ length rest
    → polynomial_sum (polynomial_scaled c low) (reduced low (c ∷ rest)) ≡ rest
unfolding reduced
added-reduced false low rest h = rw (scaled_false low) (zeros_within (length low) rest h)
added-reduced true low rest h = rw (scaled_true low) (sum_twice low rest h)

-- what a quotient, a divisor and a remainder make
made : List Bool → List Bool → List Bool → List Bool
made q low r = polynomial_sum (polynomial_product q (true ∷ low)) (replicate (length q) false ++ r)

made-nil : (low r : List Bool) → made [] low r ≡ r
unfolding made
made-nil low r = refl

leading : (c : Bool) → coefficient_sum (coefficient_sum (c && true) false) false ≡ c
leading false = refl
leading true = refl

made-cons : (c : Bool) (q low r : List Bool) → made (c ∷ q) low r ≡ c ∷ polynomial_sum (polynomial_scaled c low) (made q low r)
unfolding made
made-cons c q low r =
    rw (leading c)
    (ap (λ (x : List Bool). c ∷ x)
    (sum_assoc (polynomial_scaled c low) (polynomial_product q (true ∷ low)) (replicate (length q) false ++ r)))

length-made : (q low r : List Bool) → length r ≡ length low → length (made q low r) ≡ length q + length low
length-made [] low r e = ap length (made-nil low r) ∙ omega (arith, e)
length-made (c ∷ q) low r e =
    ap length (made-cons c q low r)
    ∙ omega (arith, length-sum_max (polynomial_scaled c low) (made q low r), length-scaled c low, length-made q low r e)

divided-made : (q low r : List Bool) → length r ≡ length low → divided low (length q) (made q low r) ≡ r
unfolding divided
divided-made [] low r e = made-nil low r
divided-made (c ∷ q) low r e =
    ap (λ d. divided low (length q) (reduced low d)) (made-cons c q low r)
    ∙ ap (divided low (length q)) (reduced-added c low (made q low r) (omega (arith, length-made q low r e)))
    ∙ divided-made q low r e

-- the leading coefficients that the steps meet
quotient : List Bool → ℕ → List Bool → List Bool
quotient low zero d = []
quotient low (suc n) [] = []
quotient low (suc n) (c ∷ rest) = c ∷ quotient low n (reduced low (c ∷ rest))

made-divided : (low : List Bool) (n : ℕ) (d : List Bool) → length d ≡ n + length low → d ≡ made (quotient low n d) low (divided low n d)
unfolding quotient divided
made-divided low zero d e = sym (made-nil low d)
made-divided low (suc n) [] e = absurd (omega arith)
made-divided low (suc n) (c ∷ rest) e =
    let next : List Bool = reduced low (c ∷ rest) in
    let len : length next ≡ n + length low = omega (arith, length-reduced low (c ∷ rest) (omega arith)) in
    sym (made-cons c (quotient low n next) low (divided low n next)
    ∙ ap (λ (x : List Bool). c ∷ x) (
    ap (polynomial_sum (polynomial_scaled c low)) (sym (made-divided low n next len))
    ∙ added-reduced c low rest (omega arith)))

pub remainder-IsDivision : (low dividend : List Bool) → length low ≤ length dividend → IsDivision low dividend (remainder low dividend)
unfolding made
remainder-IsDivision low dividend h =
    let n : ℕ = length dividend - length low in
    let len : length dividend ≡ n + length low = omega arith in
    record {
      quotient = quotient low n dividend;
      lower = length-remainder low dividend n len;
      whole = made-divided low n dividend len ∙ ap (made (quotient low n dividend) low) (sym (remainder-divided low dividend n len));
    }

pub IsDivision-remainder : (low dividend r : List Bool) → IsDivision low dividend r → r ≡ remainder low dividend
unfolding made
IsDivision-remainder low dividend r d =
    let len : length dividend ≡ length d.quotient + length low = ap length d.whole ∙ length-made d.quotient low r d.lower in
    let n : ℕ = length d.quotient in
    sym (remainder-divided low dividend n len ∙ ap (divided low n) d.whole ∙ divided-made d.quotient low r d.lower)
