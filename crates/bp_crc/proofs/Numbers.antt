-- Long division on the numbers of polynomials: the lowest bit is the highest power, and a sum is a `bit_xor`.
use Rattle.std.proofs.Common.{◌≡◌, ℕ, zero, suc, ◌+◌, ◌⊎◌, inl, inr, ◌*◌, ◌/◌, ◌%◌, ◌^◌, ◌<◌, Bool, true, false, cond, eqb, List, [], ◌∷◌, bit_xor, refl, sym, ap, ◌∙◌, arith, zero-add, lit<}
use Rattle.std.proofs.lemmas.Nat.{xor_block, xor_comm, xor_mod, xor_shr}
use Rattle.std.proofs.Math.Nat.{mul-one, pow-suc}
use lib.Bits.{xor_assoc, xor_zero_r, xor_self, xor_shifted}
use Rattle.gf2_polynomial.specs.Polynomial.{polynomial_sum}
use Rattle.bp_crc.specs.Polynomial.{reduced, divided}
use Rattle.bp_crc.specs.Check.{number_of}

pub number_of-sum : (p q : List Bool) → number_of (polynomial_sum p q) ≡ bit_xor (number_of p) (number_of q)
unfolding number_of
number_of-sum [] q = refl
number_of-sum (a ∷ p) [] = sym (xor_zero_r _)
number_of-sum (false ∷ p) (false ∷ q) = rw (number_of-sum p q) (sym (xor_block 1 (number_of p) (number_of q) 0 0 (lit< tt) (lit< tt)))
number_of-sum (false ∷ p) (true ∷ q) = rw (number_of-sum p q) (sym (xor_block 1 (number_of p) (number_of q) 0 1 (lit< tt) (lit< tt)))
number_of-sum (true ∷ p) (false ∷ q) = rw (number_of-sum p q) (sym (xor_block 1 (number_of p) (number_of q) 1 0 (lit< tt) (lit< tt)))
number_of-sum (true ∷ p) (true ∷ q) = rw (number_of-sum p q) (sym (xor_block 1 (number_of p) (number_of q) 1 1 (lit< tt) (lit< tt)))

-- t where the lowest bit is one, and else 0
abbrev pub picked : ℕ → ℕ → ℕ
picked t bit = cond (eqb bit 1) t 0

-- one step of long division by the divisor whose lower coefficients have the number t
unfoldable pub step : ℕ → ℕ → ℕ
step t x = bit_xor (picked t (x % 2)) (x / 2)

unfoldable pub steps : ℕ → ℕ → ℕ → ℕ
steps t zero x = x
steps t (suc n) x = steps t n (step t x)

step-double : (t x : ℕ) → step t (x * 2) ≡ x
unfolding step
step-double t x =
    let low : x * 2 % 2 ≡ 0 = omega arith in
    let high : x * 2 / 2 ≡ x = omega arith in
    rw (low, high) refl

number_of-reduced : (low d : List Bool) → number_of (reduced low d) ≡ step (number_of low) (number_of d)
unfolding number_of reduced step
number_of-reduced low [] = refl
number_of-reduced low (false ∷ rest) =
    let n : ℕ = number_of rest in
    let even : (n * 2 + 0) % 2 ≡ 0 = omega arith in
    let half : (n * 2 + 0) / 2 ≡ n = omega arith in
    rw (even, half) refl
number_of-reduced low (true ∷ rest) =
    let n : ℕ = number_of rest in
    let odd : (n * 2 + 1) % 2 ≡ 1 = omega arith in
    let half : (n * 2 + 1) / 2 ≡ n = omega arith in
    rw (odd, half) (number_of-sum low rest)

pub number_of-divided : (low : List Bool) (n : ℕ) (d : List Bool)
    → number_of (divided low n d) ≡ steps (number_of low) n (number_of d)
unfolding divided steps
number_of-divided low zero d = refl
number_of-divided low (suc n) d =
    number_of-divided low n (reduced low d) ∙ ap (steps (number_of low) n) (number_of-reduced low d)

-- (a + b) + (c + d) as (a + c) + (b + d)
xor_swap : (a b c d : ℕ) → bit_xor (bit_xor a b) (bit_xor c d) ≡ bit_xor (bit_xor a c) (bit_xor b d)
xor_swap a b c d =
    xor_assoc a b (bit_xor c d) ∙ ap (bit_xor a) (sym (xor_assoc b c d) ∙ ap (λ x. bit_xor x d) (xor_comm b c) ∙ xor_assoc c b d)
    ∙ sym (xor_assoc a c (bit_xor b d))

pub below_two : (x : ℕ) → x < 2 → (x ≡ 0) ⊎ (x ≡ 1)
below_two zero h = inl refl
below_two (suc zero) h = inr refl
below_two (suc (suc x)) h = absurd (omega arith)

picked-xor : (t x y : ℕ) → x < 2 → y < 2 → picked t (bit_xor x y) ≡ bit_xor (picked t x) (picked t y)
picked-xor t x y p q =
    elim (below_two x p) [
      | inl e ↦ elim (below_two y q) [ inl f ↦ rw (e, f) refl | inr f ↦ rw (e, f) refl ]
      | inr e ↦ elim (below_two y q) [ inl f ↦ rw (e, f) (sym (xor_zero_r t)) | inr f ↦ rw (e, f) (sym (xor_self t)) ]
    ]

step-xor : (t x y : ℕ) → step t (bit_xor x y) ≡ bit_xor (step t x) (step t y)
unfolding step
step-xor t x y =
    let low : bit_xor x y % 2 ≡ bit_xor (x % 2) (y % 2) = xor_mod x y 1 in
    let high : bit_xor x y / 2 ≡ bit_xor (x / 2) (y / 2) = xor_shr x y 1 in
    rw (low, high, picked-xor t (x % 2) (y % 2) (omega arith) (omega arith))
    (xor_swap (picked t (x % 2)) (picked t (y % 2)) (x / 2) (y / 2))

pub steps-xor : (t n x y : ℕ) → steps t n (bit_xor x y) ≡ bit_xor (steps t n x) (steps t n y)
unfolding steps
steps-xor t zero x y = refl
steps-xor t (suc n) x y = ap (steps t n) (step-xor t x y) ∙ steps-xor t n (step t x) (step t y)

pub steps-add : (t m n x : ℕ) → steps t (m + n) x ≡ steps t n (steps t m x)
unfolding steps
steps-add t zero n x = ap (λ k. steps t k x) (zero-add n)
steps-add t (suc m) n x = let e : suc m + n ≡ suc (m + n) = omega arith in ap (λ k. steps t k x) e ∙ steps-add t m n (step t x)

-- zeros are divided away
pub steps-shifted : (t n x : ℕ) → steps t n (x * 2 ^ n) ≡ x
unfolding steps
steps-shifted t zero x = mul-one x
steps-shifted t (suc n) x =
    let e : x * 2 ^ suc n ≡ x * 2 ^ n * 2 = rw pow-suc (omega arith) in
    ap (λ y. steps t n (step t y)) e ∙ ap (steps t n) (step-double t (x * 2 ^ n)) ∙ steps-shifted t n x

-- a byte: eight steps are one look-up and a shift
pub steps-byte : (t x : ℕ) → steps t 8 x ≡ bit_xor (steps t 8 (x % 256)) (x / 256)
steps-byte t x =
    let low : x % 256 < 2 ^ 8 = omega arith in
    let parts : x ≡ bit_xor (x / 256 * 2 ^ 8) (x % 256) = omega (arith, xor_shifted (x / 256) 8 (x % 256) low) in
    ap (steps t 8) (parts ∙ xor_comm (x / 256 * 2 ^ 8) (x % 256)) ∙ steps-xor t 8 (x % 256) (x / 256 * 2 ^ 8)
    ∙ ap (bit_xor (steps t 8 (x % 256))) (steps-shifted t 8 (x / 256))
