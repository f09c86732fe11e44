-- Laws of products of blocks: each factor times x, a left factor joined of two, and the order of two products.
use Rattle.std.proofs.Common.{◌≡◌, ℕ, zero, suc, Bool, true, false, ◌&&◌, List, [], ◌∷◌, ◌++◌, length, take, replicate, get_or, refl, sym, ap, ◌∙◌, arith}
use Rattle.std.proofs.lemmas.List.{length-replicate, length-take-le, take_all, length_push, take_at, get_or_at, take_more}
use Rattle.gcm_core.specs.Polynomial.{coefficient, coefficient_sum, polynomial_sum, polynomial_scaled, polynomial_product, reduced, remainder}
use Rattle.gcm_core.specs.Block.{low_terms, block_product}
use Rattle.gcm_core.specs.Hash.{times_power}
use Rattle.gcm_core.specs.Tables.{times_power_of_x}
use Rattle.gcm_core.proofs.PolynomialLemmas.{xor_zero, sum_nil, sum_comm, sum_assoc, sum_zeros, zeros_sum, sum_self, scaled_false, scaled_true, length-scaled, length-reduced, reduced-sum, remainder-sum, remainder_same, remainder_product}
use Rattle.gcm_core.proofs.BitsLemmas.{length-low_terms}
use Rattle.gcm_core.proofs.PowerLemmas.{block_product-sum, length-block_product}

-- the zero block
abbrev pub zeros : List Bool
zeros = replicate 128 false

-- a block times x
abbrev pub times_x : List Bool → List Bool
times_x p = reduced low_terms (false ∷ p)

pub length-times_x : (p : List Bool) → length p ≡ 128 → length (times_x p) ≡ 128
length-times_x p h = length-reduced low_terms (false ∷ p) (omega (arith, length-low_terms)) ∙ length-low_terms

pub times_x-sum : (p q : List Bool) → times_x (polynomial_sum p q) ≡ polynomial_sum (times_x p) (times_x q)
times_x-sum p q = reduced-sum low_terms (false ∷ p) (false ∷ q)

zeros_twice : polynomial_sum zeros zeros ≡ zeros
zeros_twice = sum_self zeros ∙ ap (λ (n : ℕ). replicate n false) (length-replicate 128 false)

-- what takes sums to sums, and blocks to blocks, takes zero to zero
additive_zero : (f : List Bool → List Bool) → ((p q : List Bool) → f (polynomial_sum p q) ≡ polynomial_sum (f p) (f q))
    → length (f zeros) ≡ 128 → f zeros ≡ zeros
additive_zero f add size =
    ap f (sym zeros_twice) ∙ add zeros zeros ∙ sum_self (f zeros) ∙ ap (λ (n : ℕ). replicate n false) size

pub times_x_zeros : times_x zeros ≡ zeros
times_x_zeros = additive_zero (λ p. times_x p) times_x-sum (length-times_x zeros (length-replicate 128 false))

-- ---- times a power of x

pub length-times_power_of_x : (k : ℕ) (p : List Bool) → length p ≡ 128 → length (times_power_of_x k p) ≡ 128
unfolding times_power_of_x
length-times_power_of_x zero p h = h
length-times_power_of_x (suc k) p h = length-times_x (times_power_of_x k p) (length-times_power_of_x k p h)

pub times_power_of_x-sum : (k : ℕ) (p q : List Bool)
    → times_power_of_x k (polynomial_sum p q) ≡ polynomial_sum (times_power_of_x k p) (times_power_of_x k q)
unfolding times_power_of_x
times_power_of_x-sum zero p q = refl
times_power_of_x-sum (suc k) p q = ap (λ t. times_x t) (times_power_of_x-sum k p q) ∙ times_x-sum (times_power_of_x k p) (times_power_of_x k q)

pub times_power_of_x_zeros : (k : ℕ) → times_power_of_x k zeros ≡ zeros
unfolding times_power_of_x
times_power_of_x_zeros zero = refl
times_power_of_x_zeros (suc k) = ap (λ t. times_x t) (times_power_of_x_zeros k) ∙ times_x_zeros

-- a block behind k zero coefficients is x ^ k times the block
remainder_shifted : (k : ℕ) (p : List Bool) → length p ≡ 128 → remainder low_terms (replicate k false ++ p) ≡ times_power_of_x k p
unfolding times_power_of_x remainder
remainder_shifted zero p h = remainder_same low_terms p (h ∙ sym length-low_terms)
remainder_shifted (suc k) p h = ap (λ t. times_x t) (remainder_shifted k p h)

-- ---- a left factor, coefficient by coefficient

pub product_nil : (h : List Bool) → block_product [] h ≡ zeros
unfolding block_product remainder
product_nil h = ap (λ (n : ℕ). replicate n false) length-low_terms

pub product_cons : (a : Bool) (p h : List Bool) → length h ≡ 128
    → block_product (a ∷ p) h ≡ polynomial_sum (polynomial_scaled a h) (times_x (block_product p h))
unfolding block_product
product_cons a p h e = remainder_product low_terms a p h (e ∙ sym length-low_terms)

pub product_x : (p h : List Bool) → length h ≡ 128 → block_product (false ∷ p) h ≡ times_x (block_product p h)
product_x p h e =
    product_cons false p h e
    ∙ ap (λ (t : List Bool). polynomial_sum t (times_x (block_product p h)))
    (scaled_false h ∙ ap (λ (n : ℕ). replicate n false) e)
    ∙ zeros_sum (times_x (block_product p h)) 128 (length-times_x (block_product p h) (length-block_product p h))

pub product_zeros : (n : ℕ) (h : List Bool) → length h ≡ 128 → block_product (replicate n false) h ≡ zeros
product_zeros zero h e = product_nil h
product_zeros (suc n) h e = product_x (replicate n false) h e ∙ ap (λ t. times_x t) (product_zeros n h e) ∙ times_x_zeros

-- the polynomial 1 with zero coefficients after it
pub product_one : (n : ℕ) (h : List Bool) → length h ≡ 128 → block_product (true ∷ replicate n false) h ≡ h
product_one n h e =
    product_cons true (replicate n false) h e
    ∙ ap (λ t. polynomial_sum (polynomial_scaled true h) (times_x t)) (product_zeros n h e)
    ∙ ap (polynomial_sum (polynomial_scaled true h)) times_x_zeros
    ∙ sum_zeros (polynomial_scaled true h) 128 (length-scaled true h ∙ e) ∙ scaled_true h

pub product-append : (p q h : List Bool) → length h ≡ 128
    → block_product (p ++ q) h ≡ polynomial_sum (block_product p h) (times_power_of_x (length p) (block_product q h))
unfolding times_power_of_x
product-append [] q h e = sym (rw (product_nil h) (zeros_sum (block_product q h) 128 (length-block_product q h)))
product-append (a ∷ p) q h e =
    let deeper : List Bool = times_power_of_x (length p) (block_product q h) in
    product_cons a (p ++ q) h e
    ∙ ap (λ t. polynomial_sum (polynomial_scaled a h) (times_x t)) (product-append p q h e)
    ∙ ap (polynomial_sum (polynomial_scaled a h)) (times_x-sum (block_product p h) deeper)
    ∙ sym (sum_assoc (polynomial_scaled a h) (times_x (block_product p h)) (times_x deeper))
    ∙ ap (λ (t : List Bool). polynomial_sum t (times_x deeper)) (sym (product_cons a p h e))

pub product_shifted : (k : ℕ) (p h : List Bool) → length h ≡ 128
    → block_product (replicate k false ++ p) h ≡ times_power_of_x k (block_product p h)
unfolding times_power_of_x
product_shifted zero p h e = refl
product_shifted (suc k) p h e = product_x (replicate k false ++ p) h e ∙ ap (λ t. times_x t) (product_shifted k p h e)

times_x-scaled : (a : Bool) (h : List Bool) → length h ≡ 128 → times_x (polynomial_scaled a h) ≡ polynomial_scaled a (times_x h)
times_x-scaled true h e = ap (λ t. times_x t) (scaled_true h) ∙ sym (scaled_true (times_x h))
times_x-scaled false h e =
    let none : polynomial_scaled false h ≡ zeros = scaled_false h ∙ ap (λ (n : ℕ). replicate n false) e in
    ap (λ t. times_x t) none ∙ times_x_zeros
    ∙ sym (scaled_false (times_x h) ∙ ap (λ (n : ℕ). replicate n false) (length-times_x h e))

-- x moves out of the right factor
pub product_times_x : (p h : List Bool) → length h ≡ 128 → block_product p (times_x h) ≡ times_x (block_product p h)
product_times_x [] h e = product_nil (times_x h) ∙ sym (ap (λ t. times_x t) (product_nil h) ∙ times_x_zeros)
product_times_x (a ∷ p) h e =
    let rest : List Bool = times_x (block_product p h) in
    product_cons a p (times_x h) (length-times_x h e)
    ∙ ap (λ t. polynomial_sum (polynomial_scaled a (times_x h)) (times_x t)) (product_times_x p h e)
    ∙ ap (λ (t : List Bool). polynomial_sum t (times_x rest)) (sym (times_x-scaled a h e))
    ∙ sym (times_x-sum (polynomial_scaled a h) rest)
    ∙ ap (λ t. times_x t) (sym (product_cons a p h e))

pub product_times_power_of_x : (k : ℕ) (p h : List Bool) → length h ≡ 128
    → block_product p (times_power_of_x k h) ≡ times_power_of_x k (block_product p h)
unfolding times_power_of_x
product_times_power_of_x zero p h e = refl
product_times_power_of_x (suc k) p h e =
    product_times_x p (times_power_of_x k h) (length-times_power_of_x k h e) ∙ ap (λ t. times_x t) (product_times_power_of_x k p h e)

-- ---- the low terms are x ^ 128

and_comm : (a b : Bool) → (a && b) ≡ (b && a)
and_comm true true = refl
and_comm true false = refl
and_comm false true = refl
and_comm false false = refl

-- the first two of three change places
sum_turned : (p q r : List Bool) → polynomial_sum p (polynomial_sum q r) ≡ polynomial_sum q (polynomial_sum p r)
sum_turned p q r = sym (sum_assoc p q r) ∙ ap (λ (t : List Bool). polynomial_sum t r) (sum_comm p q) ∙ sum_assoc q p r

scaled_comm : (a b : Bool) (p : List Bool) → polynomial_product p (b ∷ []) ≡ polynomial_scaled b p
scaled_comm a b [] = refl
scaled_comm a b (c ∷ p) = rw (xor_zero (c && b), and_comm c b, scaled_comm a b p) refl

-- a product by the right factor's coefficients
product_right : (a : Bool) (p : List Bool) (b c : Bool) (q : List Bool) → polynomial_product (a ∷ p) (b ∷ c ∷ q)
    ≡ polynomial_sum (polynomial_scaled b (a ∷ p)) (false ∷ polynomial_product (a ∷ p) (c ∷ q))
product_right a [] b c q = rw (and_comm a b, xor_zero (a && c), sum_nil (polynomial_scaled a q)) refl
product_right a (d ∷ p) b c q =
    let front : Bool = coefficient_sum (a && b) false in
    let inner : List Bool = false ∷ polynomial_product (d ∷ p) (c ∷ q) in
    ap (λ (t : List Bool). front ∷ polynomial_sum (polynomial_scaled a (c ∷ q)) t) (product_right d p b c q)
    ∙ ap (λ (t : List Bool). front ∷ t) (sum_turned (polynomial_scaled a (c ∷ q)) (polynomial_scaled b (d ∷ p)) inner)
    ∙ ap (λ (t : Bool). coefficient_sum t false ∷ polynomial_sum (polynomial_scaled b (d ∷ p)) (polynomial_sum (polynomial_scaled a (c ∷ q)) inner))
    (and_comm a b)

-- x ^ d times b
remainder_power : (l : Bool) (low : List Bool) (b : Bool)
    → remainder (l ∷ low) (replicate (suc (length low)) false ++ b ∷ []) ≡ polynomial_scaled b (l ∷ low)
unfolding remainder reduced
remainder_power l low b =
    let d : ℕ = length low in
    let inner : List Bool = replicate d false ++ b ∷ [] in
    let size : length inner ≡ suc d = omega (arith, length_push (replicate d false) b, length-replicate d false) in
    let front : take (suc d) (replicate (suc d) false ++ b ∷ []) ≡ replicate (suc d) false =
    take_at (replicate (suc d) false) (b ∷ []) (suc d) (length-replicate (suc d) false) in
    let top : coefficient (replicate (suc d) false ++ b ∷ []) (suc d) ≡ b =
    get_or_at (replicate (suc d) false) b [] false (suc d) (length-replicate (suc d) false) in
    ap (λ (t : List Bool). reduced (l ∷ low) (false ∷ t)) (remainder_same (l ∷ low) inner size)
    ∙ ap (λ (t : List Bool). polynomial_sum t (polynomial_scaled (coefficient (false ∷ inner) (suc d)) (l ∷ low))) front
    ∙ ap (λ (c : Bool). polynomial_sum (replicate (suc d) false) (polynomial_scaled c (l ∷ low))) top
    ∙ zeros_sum (polynomial_scaled b (l ∷ low)) (suc d) (length-scaled b (l ∷ low))

-- a polynomial behind zero coefficients, by its first coefficient
shifted_cons : (n : ℕ) (b c : Bool) (q : List Bool) → replicate n false ++ b ∷ c ∷ q
    ≡ polynomial_sum (replicate n false ++ b ∷ []) (false ∷ (replicate n false ++ c ∷ q))
shifted_cons zero b c q = rw (xor_zero b) refl
shifted_cons (suc n) b c q = ap (λ (t : List Bool). false ∷ t) (shifted_cons n b c q)

-- the low terms and x ^ d leave the same remainders
low_terms_as_power : (l : Bool) (low : List Bool) (b : Bool) (q : List Bool)
    → remainder (l ∷ low) (polynomial_product (l ∷ low) (b ∷ q)) ≡ remainder (l ∷ low) (replicate (suc (length low)) false ++ b ∷ q)
unfolding remainder
low_terms_as_power l low b [] =
    ap (remainder (l ∷ low)) (scaled_comm l b (l ∷ low))
    ∙ remainder_same (l ∷ low) (polynomial_scaled b (l ∷ low)) (length-scaled b (l ∷ low))
    ∙ sym (remainder_power l low b)
low_terms_as_power l low b (c ∷ q) =
    let n : ℕ = suc (length low) in
    let scaled : List Bool = polynomial_scaled b (l ∷ low) in
    ap (remainder (l ∷ low)) (product_right l low b c q)
    ∙ remainder-sum (l ∷ low) scaled (false ∷ polynomial_product (l ∷ low) (c ∷ q))
    ∙ ap (λ (t : List Bool). polynomial_sum t (reduced (l ∷ low) (false ∷ remainder (l ∷ low) (polynomial_product (l ∷ low) (c ∷ q)))))
    (remainder_same (l ∷ low) scaled (length-scaled b (l ∷ low)))
    ∙ ap (λ (t : List Bool). polynomial_sum scaled (reduced (l ∷ low) (false ∷ t))) (low_terms_as_power l low c q)
    ∙ sym (ap (remainder (l ∷ low)) (shifted_cons n b c q)
    ∙ remainder-sum (l ∷ low) (replicate n false ++ b ∷ []) (false ∷ (replicate n false ++ c ∷ q))
    ∙ ap (λ (t : List Bool). polynomial_sum t (reduced (l ∷ low) (false ∷ remainder (l ∷ low) (replicate n false ++ c ∷ q))))
    (remainder_power l low b))

product_low_of : (b : Bool) (q : List Bool) → remainder low_terms (polynomial_product low_terms (b ∷ q))
    ≡ remainder low_terms (replicate 128 false ++ b ∷ q)
unfolding low_terms
product_low_of b q =
    low_terms_as_power true (true ∷ true ∷ false ∷ false ∷ false ∷ false ∷ true ∷ replicate 120 false) b q

pub product_low_terms : (h : List Bool) → length h ≡ 128 → block_product low_terms h ≡ times_power_of_x 128 h
unfolding block_product
product_low_terms [] e = absurd (omega arith)
product_low_terms (b ∷ q) e = product_low_of b q ∙ remainder_shifted 128 (b ∷ q) e

-- ---- x moves out of the left factor

-- the coefficient c of x ^ 128
product_fallen_out : (c : Bool) (h : List Bool) → length h ≡ 128
    → block_product (polynomial_scaled c low_terms) h ≡ times_power_of_x 128 (block_product (c ∷ []) h)
product_fallen_out true h e =
    ap (λ (t : List Bool). block_product t h) (scaled_true low_terms) ∙ product_low_terms h e
    ∙ ap (times_power_of_x 128) (sym (product_one 0 h e))
product_fallen_out false h e =
    ap (λ (t : List Bool). block_product t h) (scaled_false low_terms) ∙ product_zeros (length low_terms) h e
    ∙ sym (ap (times_power_of_x 128) (product_zeros 1 h e) ∙ times_power_of_x_zeros 128)

pub times_x_product : (p h : List Bool) → length p ≡ 128 → length h ≡ 128 → block_product (times_x p) h ≡ times_x (block_product p h)
unfolding reduced
times_x_product p h f e =
    let c : Bool = coefficient (false ∷ p) 128 in
    let t : List Bool = take 128 (false ∷ p) in
    let size : length t ≡ 128 = length-take-le 128 (false ∷ p) (omega arith) in
    let split : false ∷ p ≡ t ++ c ∷ [] = whole (false ∷ p) (ap suc f) in
    ap (λ (n : ℕ). block_product (polynomial_sum (take n (false ∷ p)) (polynomial_scaled (coefficient (false ∷ p) n) low_terms)) h)
    length-low_terms
    ∙ block_product-sum t (polynomial_scaled c low_terms) h
    ∙ ap (polynomial_sum (block_product t h)) (product_fallen_out c h e)
    ∙ sym (sym (product_x p h e) ∙ ap (λ (s : List Bool). block_product s h) split ∙ product-append t (c ∷ []) h e
    ∙ ap (λ (n : ℕ). polynomial_sum (block_product t h) (times_power_of_x n (block_product (c ∷ []) h))) size)
  where
    whole : (s : List Bool) → length s ≡ 129 → s ≡ take 128 s ++ get_or s 128 false ∷ []
    whole s g = sym (take_all 129 s (omega arith)) ∙ take_more s 128 false (omega arith)

-- ---- the order of two products

product-scaled : (a : Bool) (k h : List Bool) → length k ≡ 128 → length h ≡ 128
    → block_product (polynomial_scaled a k) h ≡ polynomial_scaled a (block_product k h)
product-scaled true k h f e = ap (λ (t : List Bool). block_product t h) (scaled_true k) ∙ sym (scaled_true (block_product k h))
product-scaled false k h f e =
    ap (λ (t : List Bool). block_product t h) (scaled_false k) ∙ product_zeros (length k) h e
    ∙ sym (scaled_false (block_product k h) ∙ ap (λ (n : ℕ). replicate n false) (length-block_product k h))

pub product_assoc : (p k h : List Bool) → length k ≡ 128 → length h ≡ 128
    → block_product (block_product p k) h ≡ block_product p (block_product k h)
product_assoc [] k h f e =
    ap (λ (t : List Bool). block_product t h) (product_nil k) ∙ product_zeros 128 h e ∙ sym (product_nil (block_product k h))
product_assoc (a ∷ p) k h f e =
    ap (λ (t : List Bool). block_product t h) (product_cons a p k f)
    ∙ block_product-sum (polynomial_scaled a k) (times_x (block_product p k)) h
    ∙ ap (λ (t : List Bool). polynomial_sum t (block_product (times_x (block_product p k)) h)) (product-scaled a k h f e)
    ∙ ap (polynomial_sum (polynomial_scaled a (block_product k h)))
    (times_x_product (block_product p k) h (length-block_product p k) e ∙ ap (λ t. times_x t) (product_assoc p k h f e))
    ∙ sym (product_cons a p (block_product k h) (length-block_product k h))

length-times_power : (k : ℕ) (h : List Bool) → length h ≡ 128 → length (times_power h k h) ≡ 128
unfolding times_power
length-times_power zero h e = e
length-times_power (suc k) h e = length-block_product (times_power h k h) h

-- the product with a power of h
pub product_power : (k : ℕ) (p h : List Bool) → length h ≡ 128 → block_product p (times_power h k h) ≡ times_power h (suc k) p
unfolding times_power
product_power zero p h e = refl
product_power (suc k) p h e =
    sym (product_assoc p (times_power h k h) h (length-times_power k h e) e) ∙ ap (λ (t : List Bool). block_product t h) (product_power k p h e)
