-- Laws of coefficients and of sums of polynomials over two elements.
use Rattle.std.proofs.Common.{◌≡◌, ℕ, zero, suc, ◌-◌, ◌≤◌, max, Bool, true, false, ◌&&◌, List, [], ◌∷◌, length, take, replicate, refl, sym, ap, ◌∙◌, arith}
use Rattle.std.proofs.lemmas.List.{length-map}
use Rattle.gf2_polynomial.specs.Polynomial.{coefficient, coefficient_sum as xor, polynomial_sum, polynomial_scaled}

-- ---- coefficients

pub xor_zero : (a : Bool) → xor a false ≡ a
xor_zero true = refl
xor_zero false = refl

pub xor_same : (a : Bool) → xor a a ≡ false
xor_same true = refl
xor_same false = refl

pub xor_comm : (a b : Bool) → xor a b ≡ xor b a
xor_comm true true = refl
xor_comm true false = refl
xor_comm false true = refl
xor_comm false false = refl

pub xor_assoc : (a b c : Bool) → xor (xor a b) c ≡ xor a (xor b c)
xor_assoc true true true = refl
xor_assoc true true false = refl
xor_assoc true false c = refl
xor_assoc false b c = refl

pub xor_twice : (a b : Bool) → xor a (xor a b) ≡ b
xor_twice true true = refl
xor_twice true false = refl
xor_twice false b = refl

pub and-xor : (a b c : Bool) → (xor a b && c) ≡ xor (a && c) (b && c)
and-xor true true c = sym (xor_same c)
and-xor true false c = sym (xor_zero c)
and-xor false b c = refl

and_xor : (a b c : Bool) → (a && xor b c) ≡ xor (a && b) (a && c)
and_xor true b c = refl
and_xor false b c = refl

-- ---- sums

pub sum_nil : (p : List Bool) → polynomial_sum p [] ≡ p
sum_nil [] = refl
sum_nil (a ∷ p) = refl

pub sum_comm : (p q : List Bool) → polynomial_sum p q ≡ polynomial_sum q p
sum_comm [] q = sym (sum_nil q)
sum_comm (a ∷ p) [] = refl
sum_comm (a ∷ p) (b ∷ q) = rw (xor_comm a b, sum_comm p q) refl

pub sum_assoc : (p q r : List Bool) → polynomial_sum (polynomial_sum p q) r ≡ polynomial_sum p (polynomial_sum q r)
sum_assoc [] q r = refl
sum_assoc (a ∷ p) [] r = refl
sum_assoc (a ∷ p) (b ∷ q) [] = refl
sum_assoc (a ∷ p) (b ∷ q) (c ∷ r) = rw (xor_assoc a b c, sum_assoc p q r) refl

-- the inner two of four change places
pub sum_swap : (p q r s : List Bool)
    → polynomial_sum (polynomial_sum p q) (polynomial_sum r s) ≡ polynomial_sum (polynomial_sum p r) (polynomial_sum q s)
sum_swap p q r s =
    sum_assoc p q (polynomial_sum r s)
    ∙ ap (polynomial_sum p) (sym (sum_assoc q r s) ∙ ap (λ (t : List Bool). polynomial_sum t s) (sum_comm q r) ∙ sum_assoc r q s)
    ∙ sym (sum_assoc p r (polynomial_sum q s))

pub coefficient-sum : (p q : List Bool) (i : ℕ) → coefficient (polynomial_sum p q) i ≡ xor (coefficient p i) (coefficient q i)
coefficient-sum [] q i = refl
coefficient-sum (a ∷ p) [] i = sym (xor_zero (coefficient (a ∷ p) i))
coefficient-sum (a ∷ p) (b ∷ q) zero = refl
coefficient-sum (a ∷ p) (b ∷ q) (suc i) = coefficient-sum p q i

pub length-sum : (p q : List Bool) (n : ℕ) → length p ≡ n → length q ≡ n → length (polynomial_sum p q) ≡ n
length-sum [] q n e h = h
length-sum (a ∷ p) [] n e h = e
length-sum (a ∷ p) (b ∷ q) n e h = omega (arith, length-sum p q (n - 1) (omega arith) (omega arith))

pub take-sum : (n : ℕ) (p q : List Bool) → take n (polynomial_sum p q) ≡ polynomial_sum (take n p) (take n q)
take-sum zero p q = refl
take-sum (suc n) [] q = refl
take-sum (suc n) (a ∷ p) [] = refl
take-sum (suc n) (a ∷ p) (b ∷ q) = ap (λ (t : List Bool). xor a b ∷ t) (take-sum n p q)

-- the zero polynomial of as many coefficients adds nothing
pub sum_zeros : (p : List Bool) (n : ℕ) → length p ≡ n → polynomial_sum p (replicate n false) ≡ p
sum_zeros [] zero h = refl
sum_zeros [] (suc n) h = cc
sum_zeros (a ∷ p) zero h = refl
sum_zeros (a ∷ p) (suc n) h = rw (xor_zero a, sum_zeros p n (omega arith)) refl

pub zeros_sum : (p : List Bool) (n : ℕ) → length p ≡ n → polynomial_sum (replicate n false) p ≡ p
zeros_sum p n h = sum_comm (replicate n false) p ∙ sum_zeros p n h

-- fewer zeros add nothing either
pub zeros_within : (k : ℕ) (q : List Bool) → k ≤ length q → polynomial_sum (replicate k false) q ≡ q
zeros_within zero q h = refl
zeros_within (suc k) [] h = absurd (omega arith)
zeros_within (suc k) (b ∷ q) h = ap (λ (t : List Bool). b ∷ t) (zeros_within k q (omega arith))

-- twice a polynomial is zero
pub sum_self : (p : List Bool) → polynomial_sum p p ≡ replicate (length p) false
sum_self [] = refl
sum_self (a ∷ p) = rw (xor_same a, sum_self p) refl

-- what is added twice falls away
pub sum_twice : (p q : List Bool) → length p ≤ length q → polynomial_sum p (polynomial_sum p q) ≡ q
sum_twice [] q h = refl
sum_twice (a ∷ p) [] h = absurd (omega arith)
sum_twice (a ∷ p) (b ∷ q) h = rw (xor_twice a b, sum_twice p q (omega arith)) refl

-- a sum has as many coefficients as the longer list
pub length-sum_max : (p q : List Bool) → length (polynomial_sum p q) ≡ max (length p) (length q)
length-sum_max [] q = omega arith
length-sum_max (a ∷ p) [] = omega arith
length-sum_max (a ∷ p) (b ∷ q) = omega (arith, length-sum_max p q)

-- ---- a polynomial times a coefficient

pub scaled_false : (q : List Bool) → polynomial_scaled false q ≡ replicate (length q) false
scaled_false [] = refl
scaled_false (b ∷ q) = ap (λ (t : List Bool). false ∷ t) (scaled_false q)

pub scaled_true : (q : List Bool) → polynomial_scaled true q ≡ q
scaled_true [] = refl
scaled_true (b ∷ q) = ap (λ (t : List Bool). b ∷ t) (scaled_true q)

pub scaled-xor : (a b : Bool) (q : List Bool)
    → polynomial_scaled (xor a b) q ≡ polynomial_sum (polynomial_scaled a q) (polynomial_scaled b q)
scaled-xor a b [] = refl
scaled-xor a b (c ∷ q) = rw (and-xor a b c, scaled-xor a b q) refl

pub length-scaled : (a : Bool) (q : List Bool) → length (polynomial_scaled a q) ≡ length q
length-scaled a q = length-map q (λ b. a && b)

pub scaled-sum : (a : Bool) (p q : List Bool)
    → polynomial_scaled a (polynomial_sum p q) ≡ polynomial_sum (polynomial_scaled a p) (polynomial_scaled a q)
scaled-sum a [] q = refl
scaled-sum a (b ∷ p) [] = refl
scaled-sum a (b ∷ p) (c ∷ q) = rw (and_xor a b c, scaled-sum a p q) refl
