-- The product by x, as it is computed on a number of 128 bits.
use Rattle.std.proofs.Common.{◌≡◌, ℕ, zero, suc, ◌+◌, ◌*◌, ◌/◌, ◌%◌, ◌^◌, ◌<◌, ◌≤◌, ◌↔◌, Bool, true, false, eqb, List, [], ◌∷◌, ◌++◌, length, drop, replicate, bit_xor, refl, sym, ap, ◌∙◌, arith, length-append}
use Rattle.std.proofs.lemmas.Nat.{xor_lt}
use Rattle.std.specs.Int.Bits.{xor_zero_r}
use Rattle.std.specs.Int.{w128, from_be_bytes, to_be_bytes}
use Rattle.gf2_polynomial.specs.Polynomial.{coefficient, coefficient_sum, polynomial_sum, polynomial_scaled, polynomial_product}
use Rattle.gf2_polynomial.proofs.Sums.{xor_zero, sum_nil, sum_zeros, sum_comm, sum_twice, scaled_true, scaled_false, length-scaled, length-sum}
use Rattle.cmac_core.specs.Field.{bits, number_of, polynomial_of, block_of, x, modulus, reduced, product_by_x, IsProductByX, times_x}
use Rattle.cmac_core.proofs.BitLemmas.{length-bits, bits_last, first_bit, after_first_bit, bits_low, bits-xor, number_of-bits}

-- ---- x p, before it is reduced

raised : (p : List Bool) → polynomial_sum p (false ∷ replicate (length p) false) ≡ p ++ false ∷ []
raised [] = refl
raised (a ∷ p) = rw (xor_zero a, raised p) refl

pub product_x : (a : Bool) (p : List Bool) → polynomial_product x (a ∷ p) ≡ (a ∷ p) ++ false ∷ []
product_x a p =
    rw (scaled_true p, scaled_false p, sum_nil (replicate (length p) false)) (raised (a ∷ p))

pub length-product_x : (a : Bool) (p : List Bool) → length (polynomial_product x (a ∷ p)) ≡ suc (length (a ∷ p))
length-product_x a p = ap length (product_x a p) ∙ omega (arith, length-append (a ∷ p) (false ∷ []))

product_x_bits : (k n : ℕ) → polynomial_product x (bits (suc k) n) ≡ bits (suc (suc k)) (n * 2)
unfolding bits
product_x_bits k n =
    let half : n * 2 / 2 ≡ n = omega arith in
    let even : n * 2 % 2 ≡ 0 = omega arith in
    product_x (eqb (n / 2 ^ k % 2) 1) (bits k n)
    ∙ sym (bits_last (suc k) (n * 2) ∙ rw (half, even) refl)

-- ---- reduced

modulus_bits : bits 129 340282366920938463463374607431768211591 ≡ modulus
unfolding bits modulus
modulus_bits = refl

pub length-modulus : length modulus ≡ 129
unfolding modulus
length-modulus = refl

-- the first coefficient is zero: the modulus is not taken away
reduced_low : (p : List Bool) → length p ≡ 129 → coefficient p 0 ≡ false → reduced p ≡ drop 1 p
unfolding reduced
reduced_low p e none = rw (none, scaled_false modulus, length-modulus, sum_zeros p 129 e) refl

-- the first coefficient is one: it is
reduced_high : (p : List Bool) → coefficient p 0 ≡ true → reduced p ≡ drop 1 (polynomial_sum p modulus)
unfolding reduced
reduced_high p one = rw (one, scaled_true modulus) refl

module _ (n : ℕ) (h : n < 2 ^ 128) where
  twice : bits 128 (n * 2) ≡ bits 128 (n * 2 % 2 ^ 128)
  twice =
      let split : n * 2 ≡ n * 2 / 2 ^ 128 * 2 ^ 128 + n * 2 % 2 ^ 128 = omega arith in
      ap (bits 128) split ∙ bits_low 128 128 (n * 2 / 2 ^ 128) (n * 2 % 2 ^ 128) (omega arith)

  top_is : (t : ℕ) → n / 2 ^ 127 ≡ t → n * 2 / 2 ^ 128 % 2 ≡ t
  top_is t e = omega arith

  low_is : n / 2 ^ 127 ≡ 0 → product_by_x (bits 128 n) ≡ bits 128 (bit_xor (n * 2 % 2 ^ 128) (0 * 135))
  unfolding product_by_x
  low_is e =
      let none : coefficient (bits 129 (n * 2)) 0 ≡ false = first_bit 128 (n * 2) ∙ ap (λ (t : ℕ). eqb t 1) (top_is 0 e) in
      ap reduced (product_x_bits 127 n)
      ∙ reduced_low (bits 129 (n * 2)) (length-bits 129 (n * 2)) none
      ∙ after_first_bit 128 (n * 2) ∙ twice ∙ ap (bits 128) (sym (xor_zero_r (n * 2 % 2 ^ 128)))

  high_is : n / 2 ^ 127 ≡ 1 → product_by_x (bits 128 n) ≡ bits 128 (bit_xor (n * 2 % 2 ^ 128) (1 * 135))
  unfolding product_by_x
  high_is e =
      let m : ℕ = 340282366920938463463374607431768211591 in
      let one : coefficient (bits 129 (n * 2)) 0 ≡ true = first_bit 128 (n * 2) ∙ ap (λ (t : ℕ). eqb t 1) (top_is 1 e) in
      ap reduced (product_x_bits 127 n)
      ∙ reduced_high (bits 129 (n * 2)) one
      ∙ ap (λ (p : List Bool). drop 1 (polynomial_sum (bits 129 (n * 2)) p)) (sym modulus_bits)
      ∙ ap (drop 1) (sym (bits-xor 129 (n * 2) m))
      ∙ after_first_bit 128 (bit_xor (n * 2) m)
      ∙ bits-xor 128 (n * 2) m
      ∙ ap (λ (p : List Bool). polynomial_sum p (bits 128 m)) twice
      ∙ ap (polynomial_sum (bits 128 (n * 2 % 2 ^ 128))) (bits_low 128 128 1 135 (omega arith))
      ∙ sym (bits-xor 128 (n * 2 % 2 ^ 128) 135)

  by_top : (t : ℕ) → n / 2 ^ 127 ≡ t → t < 2 → product_by_x (bits 128 n) ≡ bits 128 (bit_xor (n * 2 % 2 ^ 128) (t * 135))
  by_top zero e g = low_is e
  by_top (suc zero) e g = high_is e
  by_top (suc (suc t)) e g = absurd (omega arith)

  doubled_below : bit_xor (n * 2 % 2 ^ 128) (n / 2 ^ 127 * 135) < 2 ^ 128
  doubled_below = xor_lt 128 (n * 2 % 2 ^ 128) (n / 2 ^ 127 * 135) (omega arith) (omega arith)

  -- the block of the product
  pub product_by_x_is : to_be_bytes w128 (bit_xor (n * 2 % 2 ^ 128) (n / 2 ^ 127 * 135)) ≡ block_of (product_by_x (bits 128 n))
  product_by_x_is =
      let d : ℕ = bit_xor (n * 2 % 2 ^ 128) (n / 2 ^ 127 * 135) in
      let number : number_of (product_by_x (bits 128 n)) ≡ d =
      ap number_of (by_top (n / 2 ^ 127) refl (omega arith)) ∙ number_of-bits 128 d ∙ omega (arith, doubled_below) in
      ap (to_be_bytes w128) (sym number)

-- the block of the number that is computed
pub times_x_is : (block : List ℕ) (n : ℕ) → n ≡ from_be_bytes w128 block → n < 2 ^ 128
    → to_be_bytes w128 (bit_xor (n * 2 % 2 ^ 128) (n / 2 ^ 127 * 135)) ≡ times_x block
times_x_is block n e h = product_by_x_is n h ∙ ap (λ (m : ℕ). block_of (product_by_x (bits 128 m))) e
