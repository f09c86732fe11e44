-- What the remainder of a polynomial is: the one list of its length that differs from it by a multiple of the modulus.
use Rattle.std.proofs.Common.{◌≡◌, ℕ, zero, suc, ◌<◌, ◌≤◌, ◌↔◌, Bool, true, false, ◌&&◌, List, [], ◌∷◌, length, take, replicate, refl, sym, ap, subst, ◌∙◌, inl, inr, arith, get_or-take, length-take}
use Rattle.std.proofs.lemmas.List.{get_or_past, get_or_append_left, get_or_at, ext_get_or, length_push}
use Rattle.std.proofs.lemmas.Bool.{cases_order}
use Rattle.gcm_core.specs.Polynomial.{coefficient, coefficient_sum, polynomial_sum, polynomial_scaled, polynomial_product, modulus, reduced, remainder, IsRemainder}
use Rattle.gcm_core.proofs.PolynomialLemmas.{xor_zero, coefficient-sum, length-remainder, product-sum}

coefficient-scaled : (a : Bool) (q : List Bool) (i : ℕ) → coefficient (polynomial_scaled a q) i ≡ (a && coefficient q i)
coefficient-scaled true [] i = refl
coefficient-scaled false [] i = refl
coefficient-scaled a (b ∷ q) zero = refl
coefficient-scaled a (b ∷ q) (suc i) = coefficient-scaled a q i

coefficient-zeros : (n i : ℕ) → coefficient (replicate n false) i ≡ false
coefficient-zeros zero i = refl
coefficient-zeros (suc n) zero = refl
coefficient-zeros (suc n) (suc i) = coefficient-zeros n i

-- the modulus has the coefficient of x ^ d, and none above
modulus_top : (low : List Bool) → coefficient (modulus low) (length low) ≡ true
modulus_top low = get_or_at low true [] false (length low) refl

modulus_below : (low : List Bool) (i : ℕ) → i < length low → coefficient (modulus low) i ≡ coefficient low i
modulus_below low i h = get_or_append_left low (true ∷ []) false i h

modulus_above : (low : List Bool) (i : ℕ) → length low < i → coefficient (modulus low) i ≡ false
modulus_above low i h = get_or_past (modulus low) i false (omega (arith, length_push low true))

and_off : (c : Bool) → (c && false) ≡ false
and_off true = refl
and_off false = refl

and_on : (c : Bool) → (c && true) ≡ c
and_on true = refl
and_on false = refl

cancels : (c : Bool) → coefficient_sum c (c && true) ≡ false
cancels true = refl
cancels false = refl

cancels_between : (m x y : Bool) → coefficient_sum (coefficient_sum m x) (coefficient_sum y m) ≡ coefficient_sum x y
cancels_between true true true = refl
cancels_between true true false = refl
cancels_between true false true = refl
cancels_between true false false = refl
cancels_between false x y = ap (coefficient_sum x) (xor_zero y)

-- a coefficient of (a + x p) q
coefficient_product : (a : Bool) (p q : List Bool) (i : ℕ) → coefficient (polynomial_product (a ∷ p) q) i
    ≡ coefficient_sum (a && coefficient q i) (coefficient (false ∷ polynomial_product p q) i)
coefficient_product a p q i =
    coefficient-sum (polynomial_scaled a q) (false ∷ polynomial_product p q) i
    ∙ ap (λ (b : Bool). coefficient_sum b (coefficient (false ∷ polynomial_product p q) i)) (coefficient-scaled a q i)

-- where p is m plus r, a + x p is x m plus a + x r
one_more : (a : Bool) (p r m : List Bool) (i : ℕ) → ((k : ℕ) → coefficient p k ≡ coefficient (polynomial_sum m r) k)
    → coefficient (a ∷ p) i ≡ coefficient_sum (coefficient (false ∷ m) i) (coefficient (a ∷ r) i)
one_more a p r m zero h = refl
one_more a p r m (suc i) h = h i ∙ coefficient-sum m r i

-- to reduce is to add a multiple of the modulus by a coefficient
coefficient-reduced : (low p : List Bool) (i : ℕ) → length p ≡ suc (length low)
    → coefficient (reduced low p) i ≡ coefficient_sum (coefficient p i) (coefficient p (length low) && coefficient (modulus low) i)
unfolding reduced
coefficient-reduced low p i h =
    let d : ℕ = length low in
    let c : Bool = coefficient p d in
    let parts : coefficient (reduced low p) i ≡ coefficient_sum (coefficient (take d p) i) (c && coefficient low i) =
    coefficient-sum (take d p) (polynomial_scaled c low) i ∙ ap (coefficient_sum (coefficient (take d p) i)) (coefficient-scaled c low i) in
    elim (cases_order i d) [
      | inl at ↦
          let front : coefficient (take d p) i ≡ false = get_or_past (take d p) i false (omega (arith, length-take d p)) in
          let rest : coefficient low i ≡ false = get_or_past low i false (omega arith) in
          let top : coefficient (modulus low) i ≡ true = rw at (modulus_top low) in
          let same : coefficient p i ≡ c = ap (coefficient p) at in
          parts ∙ rw (front, rest, top, same) (and_off c ∙ sym (cancels c))
      | inr other ↦ elim other [
        | inl below ↦
            let front : coefficient (take d p) i ≡ coefficient p i = get_or-take d p i false below in
            parts ∙ rw (front, modulus_below low i below) refl
        | inr above ↦
            let front : coefficient (take d p) i ≡ false = get_or_past (take d p) i false (omega (arith, length-take d p)) in
            let rest : coefficient low i ≡ false = get_or_past low i false (omega arith) in
            let whole : coefficient p i ≡ false = get_or_past p i false (omega arith) in
            parts ∙ rw (front, rest, modulus_above low i above, whole) refl
      ]
    ]

-- ---- the remainder differs by a multiple

-- the quotient that the remainder leaves
quotient : List Bool → List Bool → List Bool
quotient low [] = []
quotient low (a ∷ p) = coefficient (a ∷ remainder low p) (length low) ∷ quotient low p

remainder_multiple : (low p : List Bool) (i : ℕ)
    → coefficient p i ≡ coefficient (polynomial_sum (polynomial_product (quotient low p) (modulus low)) (remainder low p)) i
unfolding remainder quotient
remainder_multiple low [] i = sym (coefficient-zeros (length low) i)
remainder_multiple low (a ∷ p) i =
    let r : List Bool = remainder low p in
    let c : Bool = coefficient (a ∷ r) (length low) in
    let qm : List Bool = polynomial_product (quotient low p) (modulus low) in
    let m : Bool = c && coefficient (modulus low) i in
    let x : Bool = coefficient (false ∷ qm) i in
    let product : coefficient (polynomial_sum (polynomial_scaled c (modulus low)) (false ∷ qm)) i ≡ coefficient_sum m x =
    coefficient_product c (quotient low p) (modulus low) i in
    let left : coefficient (reduced low (a ∷ r)) i ≡ coefficient_sum (coefficient (a ∷ r) i) m =
    coefficient-reduced low (a ∷ r) i (ap suc (length-remainder low p)) in
    let whole : coefficient (a ∷ p) i ≡ coefficient_sum x (coefficient (a ∷ r) i) = one_more a p r qm i (remainder_multiple low p) in
    whole
    ∙ sym (coefficient-sum (polynomial_sum (polynomial_scaled c (modulus low)) (false ∷ qm)) (reduced low (a ∷ r)) i
    ∙ rw (product, left) (cancels_between m x (coefficient (a ∷ r) i)))

remainder_IsRemainder : (low p : List Bool) → IsRemainder low p (remainder low p)
remainder_IsRemainder low p = record { short = length-remainder low p; multiple = (quotient low p, remainder_multiple low p) }

-- ---- and no other list does

moved_zeros : (m : List Bool) → ((k : ℕ) → coefficient m k ≡ false) → (k : ℕ) → coefficient (false ∷ m) k ≡ false
moved_zeros m h zero = refl
moved_zeros m h (suc k) = h k

same_from_sum : (a b : Bool) → coefficient_sum a b ≡ false → a ≡ b
same_from_sum true true h = refl
same_from_sum false false h = refl
same_from_sum true false h = h
same_from_sum false true h = sym h

-- a multiple of the modulus with no coefficient from x ^ d on is zero
no_multiple : (low q : List Bool) → ((i : ℕ) → length low ≤ i → coefficient (polynomial_product q (modulus low)) i ≡ false)
    → (i : ℕ) → coefficient (polynomial_product q (modulus low)) i ≡ false
no_multiple low [] h i = refl
no_multiple low (a ∷ q) h i =
    let d : ℕ = length low in
    let qm : List Bool = polynomial_product q (modulus low) in
    let above : (k : ℕ) → d ≤ k → coefficient qm k ≡ false = λ k g.
    let none : coefficient (modulus low) (suc k) ≡ false = modulus_above low (suc k) (omega arith) in
    let sum : coefficient_sum (a && coefficient (modulus low) (suc k)) (coefficient qm k) ≡ false =
    sym (coefficient_product a q (modulus low) (suc k)) ∙ h (suc k) (omega arith) in
    rw (none, and_off a) at sum in
    let moved : (k : ℕ) → coefficient (false ∷ qm) k ≡ false = moved_zeros qm (no_multiple low q above) in
    let top : coefficient_sum (a && coefficient (modulus low) d) (coefficient (false ∷ qm) d) ≡ false =
    sym (coefficient_product a q (modulus low) d) ∙ h d (omega arith) in
    let off : a ≡ false = sym (xor_zero a) ∙ (rw (modulus_top low, moved d, and_on a) at top) in
    coefficient_product a q (modulus low) i ∙ rw (off, moved i) refl

coefficient_product-sum : (p q m : List Bool) (i : ℕ) → coefficient (polynomial_product (polynomial_sum p q) m) i
    ≡ coefficient_sum (coefficient (polynomial_product p m) i) (coefficient (polynomial_product q m) i)
coefficient_product-sum p q m i =
    ap (λ (t : List Bool). coefficient t i) (product-sum p q m) ∙ coefficient-sum (polynomial_product p m) (polynomial_product q m) i

same_sums : (a b x y : Bool) → coefficient_sum a x ≡ coefficient_sum b y → coefficient_sum a b ≡ coefficient_sum x y
same_sums true true true true h = refl
same_sums true true true false h = cc
same_sums true true false true h = cc
same_sums true true false false h = refl
same_sums true false true true h = cc
same_sums true false true false h = refl
same_sums true false false true h = refl
same_sums true false false false h = cc
same_sums false true true true h = cc
same_sums false true true false h = refl
same_sums false true false true h = refl
same_sums false true false false h = cc
same_sums false false true true h = refl
same_sums false false true false h = cc
same_sums false false false true h = cc
same_sums false false false false h = refl

-- a list with what a remainder has is the remainder
remainder_unique : (low p r : List Bool) → IsRemainder low p r → r ≡ remainder low p
remainder_unique low p r is =
    let s : List Bool = remainder low p in
    let q : List Bool = is.multiple.0 in
    let t : List Bool = quotient low p in
    let qm : List Bool = polynomial_product q (modulus low) in
    let tm : List Bool = polynomial_product t (modulus low) in
    let sums : (i : ℕ) → coefficient_sum (coefficient qm i) (coefficient r i) ≡ coefficient_sum (coefficient tm i) (coefficient s i) =
    λ i. sym (coefficient-sum qm r i) ∙ sym (is.multiple.1 i) ∙ remainder_multiple low p i ∙ coefficient-sum tm s i in
    let both : (i : ℕ)
    → coefficient (polynomial_product (polynomial_sum q t) (modulus low)) i ≡ coefficient_sum (coefficient r i) (coefficient s i) =
    λ i. coefficient_product-sum q t (modulus low) i
    ∙ same_sums (coefficient qm i) (coefficient tm i) (coefficient r i) (coefficient s i) (sums i) in
    let none : (i : ℕ) → coefficient (polynomial_product (polynomial_sum q t) (modulus low)) i ≡ false =
    no_multiple low (polynomial_sum q t) (λ i h.
    let left : coefficient r i ≡ false = get_or_past r i false (omega (arith, is.short)) in
    let right : coefficient s i ≡ false = get_or_past s i false (omega (arith, length-remainder low p)) in
    both i ∙ rw (left, right) refl) in
    ext_get_or false r s (is.short ∙ sym (length-remainder low p))
    (λ i h. same_from_sum (coefficient r i) (coefficient s i) (sym (both i) ∙ none i))

pub remainder_exact : (low p r : List Bool) → (r ≡ remainder low p) ↔ IsRemainder low p r
remainder_exact low p r = (λ e. subst (IsRemainder low p) (sym e) (remainder_IsRemainder low p), remainder_unique low p r)
