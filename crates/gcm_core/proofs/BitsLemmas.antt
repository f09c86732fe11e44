-- The bits of numbers as polynomials.
use Rattle.std.proofs.Common.{◌≡◌, ℕ, zero, suc, ◌+◌, ◌/◌, ◌%◌, ◌^◌, ◌<◌, Bool, false, eqb, List, [], ◌∷◌, ◌++◌, length, replicate, bit_and, bit_xor, refl, sym, ap, ◌∙◌, arith, zero-add, add-one}
use Rattle.std.proofs.Math.Nat.{zero-div}
use Rattle.std.proofs.lemmas.List.{take_at, get_or_at}
use Rattle.std.proofs.lemmas.Nat.{shr-shr, shr_below, and_mask}
use Rattle.std.proofs.lemmas.Nat.Bits.{bit_at_xor, bit_at-lt}
use Rattle.std.specs.Int.{bit_at}
use Rattle.gcm_core.specs.Polynomial.{coefficient_sum, polynomial_sum, polynomial_scaled, polynomial_product, reduced, remainder}
use Rattle.gcm_core.specs.Block.{bits, block_product, low_terms}
use Rattle.gcm_core.proofs.PolynomialLemmas.{scaled_false, scaled_true, sum_zeros, zeros_sum, sum_comm, remainder_product}

pub length-bits : (k n : ℕ) → length (bits k n) ≡ k
unfolding bits
length-bits zero n = refl
length-bits (suc k) n = ap suc (length-bits k n)

pub bits_zero : (k : ℕ) → bits k 0 ≡ replicate k false
unfolding bits
bits_zero zero = refl
bits_zero (suc k) = rw (zero-div (2 ^ k), bits_zero k) refl

-- the lowest bit comes last
bits_last : (k n : ℕ) → bits (suc k) n ≡ bits k (n / 2) ++ eqb (n % 2) 1 ∷ []
unfolding bits
bits_last zero n =
    let whole : n / 1 ≡ n = omega arith in
    rw whole refl
bits_last (suc k) n =
    let deeper : n / 2 / 2 ^ k ≡ n / 2 ^ suc k = shr-shr n 1 k ∙ ap (λ (j : ℕ). n / 2 ^ j) (omega arith) in
    rw (deeper, ← bits_last k n) refl

-- a number has no bit above its first k
bits_above : (k n : ℕ) → n < 2 ^ k → bits (suc k) n ≡ false ∷ bits k n
unfolding bits
bits_above k n h =
    let wide : n < 2 ^ (0 + k) = rw (zero-add k) h in
    let high : n / 2 ^ k < 1 = shr_below n 0 k wide in
    let none : n / 2 ^ k ≡ 0 = omega arith in
    rw none refl

-- the bit of an exclusive or
xor_bit : (x y : ℕ) → x < 2 → y < 2 → eqb ((x + y) % 2) 1 ≡ coefficient_sum (eqb x 1) (eqb y 1)
xor_bit zero zero h g = refl
xor_bit zero (suc zero) h g = refl
xor_bit (suc zero) zero h g = refl
xor_bit (suc zero) (suc zero) h g = refl
xor_bit zero (suc (suc y)) h g = absurd (omega arith)
xor_bit (suc zero) (suc (suc y)) h g = absurd (omega arith)
xor_bit (suc (suc x)) y h g = absurd (omega arith)

pub bits-xor : (k a b : ℕ) → bits k (bit_xor a b) ≡ polynomial_sum (bits k a) (bits k b)
unfolding bits
bits-xor zero a b = refl
bits-xor (suc k) a b =
    rw (bit_at_xor a b k, xor_bit (bit_at a k) (bit_at b k) (bit_at-lt a k) (bit_at-lt b k), bits-xor k a b) refl

-- ---- times x

-- x times a polynomial of k bits, reduced: the bits one place on, and the low terms where the last bit falls out
times_x_by : (k n : ℕ) (low : List Bool) → length low ≡ k → n < 2 ^ k
    → reduced low (false ∷ bits k n) ≡ polynomial_sum (bits k (n / 2)) (polynomial_scaled (eqb (n % 2) 1) low)
unfolding reduced
times_x_by k n low e h =
    let moved : false ∷ bits k n ≡ bits k (n / 2) ++ eqb (n % 2) 1 ∷ [] = sym (bits_above k n h) ∙ bits_last k n in
    let front = take_at (bits k (n / 2)) (eqb (n % 2) 1 ∷ []) (length low) (length-bits k (n / 2) ∙ sym e) in
    let top = get_or_at (bits k (n / 2)) (eqb (n % 2) 1) [] false (length low) (length-bits k (n / 2) ∙ sym e) in
    rw (moved, front, top) refl

low_terms_bits : bits 128 299076299051606071403356588563077529600 ≡ low_terms
unfolding bits low_terms
low_terms_bits = refl

pub length-low_terms : length low_terms ≡ 128
unfolding low_terms
length-low_terms = refl

pub times_x_odd : (n : ℕ) → n < 2 ^ 128 → bit_and n 1 ≡ 1
    → bits 128 (bit_xor (n / 2) 299076299051606071403356588563077529600) ≡ reduced low_terms (false ∷ bits 128 n)
times_x_odd n h odd =
    let last : n % 2 ≡ 1 = sym (and_mask n 1) ∙ odd in
    sym (times_x_by 128 n low_terms length-low_terms h
    ∙ rw (last, scaled_true low_terms) (ap (polynomial_sum (bits 128 (n / 2))) (sym low_terms_bits))
    ∙ sym (bits-xor 128 (n / 2) 299076299051606071403356588563077529600))

pub times_x_even : (n : ℕ) → n < 2 ^ 128 → (bit_and n 1 ≡ 1 → ⊥) → bits 128 (n / 2) ≡ reduced low_terms (false ∷ bits 128 n)
times_x_even n h even =
    let last : n % 2 ≡ 0 = omega (arith, and_mask n 1) in
    sym (times_x_by 128 n low_terms length-low_terms h
    ∙ rw (last, scaled_false low_terms, length-low_terms) (sum_zeros (bits 128 (n / 2)) 128 (length-bits 128 (n / 2))))

-- ---- products

-- the product so far, by the last i coefficients of the left factor
abbrev pub partial_product : ℕ → ℕ → ℕ → List Bool
partial_product i left right = remainder low_terms (polynomial_product (bits i left) (bits 128 right))

partial_product_more : (i left right : ℕ) → partial_product (suc i) left right
    ≡ polynomial_sum (polynomial_scaled (eqb (left / 2 ^ i % 2) 1) (bits 128 right))
    (reduced low_terms (false ∷ partial_product i left right))
unfolding bits
partial_product_more i left right =
    remainder_product low_terms (eqb (left / 2 ^ i % 2) 1) (bits i left) (bits 128 right) (length-bits 128 right ∙ sym length-low_terms)

module _ (i left right sum twice : ℕ) (held : bits 128 sum ≡ partial_product i left right)
    (doubled : bits 128 twice ≡ reduced low_terms (false ∷ bits 128 sum)) where
  pub partial_product_with : bit_and (left / 2 ^ i) 1 ≡ 1 → bits 128 (bit_xor twice right) ≡ partial_product (i + 1) left right
  partial_product_with set =
      let bit : left / 2 ^ i % 2 ≡ 1 = sym (and_mask (left / 2 ^ i) 1) ∙ set in
      bits-xor 128 twice right ∙ sum_comm (bits 128 twice) (bits 128 right)
      ∙ sym (rw (add-one, partial_product_more i left right, bit, scaled_true (bits 128 right), ← held, ← doubled) refl)

  pub partial_product_without : (bit_and (left / 2 ^ i) 1 ≡ 1 → ⊥) → bits 128 twice ≡ partial_product (i + 1) left right
  partial_product_without unset =
      let bit : left / 2 ^ i % 2 ≡ 0 = omega (arith, and_mask (left / 2 ^ i) 1) in
      sym (rw (add-one, partial_product_more i left right, bit, scaled_false (bits 128 right), length-bits 128 right, ← held, ← doubled)
      (zeros_sum (bits 128 twice) 128 (length-bits 128 twice)))
