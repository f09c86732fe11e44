-- Products of bytes: they are bytes, and they are additive.
use Rattle.std.proofs.Common.{◌≡◌, ℕ, zero, suc, ◌*◌, ◌/◌, ◌%◌, ◌<◌, refl, sym, ap, ◌∙◌, arith, inl, inr, ◌⊎◌, add-zero}
use Rattle.std.proofs.Math.Nat.{zero-mul, one-mul}
use Rattle.std.specs.Int.Bits.{bit_xor, xor_assoc, xor_comm, xor_zero_r, xor_self, xor_lt, xor_block, xor_shr}
use Rattle.aes_core.specs.Field.{times_x, product_of_bits, product, power}
use Rattle.aes_core.proofs.EachByte.{at_each_byte}

-- (a + b) + (c + d), with b and c in each other's place
pub xor_swap : (a b c d : ℕ) → bit_xor (bit_xor a b) (bit_xor c d) ≡ bit_xor (bit_xor a c) (bit_xor b d)
xor_swap a b c d =
    xor_assoc a b (bit_xor c d)
    ∙ ap (bit_xor a) (sym (xor_assoc b c d) ∙ ap (λ x. bit_xor x d) (xor_comm b c) ∙ xor_assoc c b d)
    ∙ sym (xor_assoc a c (bit_xor b d))

pub xor_twice : (a b : ℕ) → bit_xor (bit_xor a b) b ≡ a
xor_twice a b = xor_assoc a b b ∙ ap (bit_xor a) (xor_self b) ∙ xor_zero_r a

pub xor_of_bytes : (a b : ℕ) → a < 256 → b < 256 → bit_xor a b < 256
xor_of_bytes a b p q = xor_lt 8 a b p q

-- ---- the product by x

-- the code's form, in the arithmetic of bytes
pub times_x_is : (a : ℕ) → a < 256 → bit_xor (a * 2 % 256) (a / 128 * 0x1b) ≡ times_x a
unfolding times_x
times_x_is = at_each_byte (λ a. bit_xor (a * 2 % 256) (a / 128 * 0x1b)) times_x refl

pub times_x-lt : (a : ℕ) → a < 256 → times_x a < 256
unfolding times_x
times_x-lt a h =
    let e = at_each_byte (λ b. times_x b / 256) (λ b. 0) refl a h in
    omega (arith, e)

-- without a test
flat : (a : ℕ) → a < 256 → times_x a ≡ bit_xor (a * 2) (a / 128 * 0x11b)
unfolding times_x
flat = at_each_byte times_x (λ a. bit_xor (a * 2) (a / 128 * 0x11b)) refl

bit_cases : (u : ℕ) → u < 2 → (u ≡ 0) ⊎ (u ≡ 1)
bit_cases zero h = inl refl
bit_cases (suc zero) h = inr refl
bit_cases (suc (suc u)) h = absurd (omega arith)

-- a bit times the modulus is additive
bit_times : (u v : ℕ) → u < 2 → v < 2 → bit_xor u v * 0x11b ≡ bit_xor (u * 0x11b) (v * 0x11b)
bit_times zero zero p q = refl
bit_times zero (suc zero) p q = refl
bit_times (suc zero) zero p q = refl
bit_times (suc zero) (suc zero) p q = refl
bit_times (suc (suc u)) v p q = absurd (omega arith)
bit_times u (suc (suc v)) p q = absurd (omega arith)

-- a bit times a number is additive in the number
pub bit_times_sum : (u a b : ℕ) → u < 2 → u * bit_xor a b ≡ bit_xor (u * a) (u * b)
bit_times_sum u a b p = elim (bit_cases u p) [
  | inl e ↦ rw (e, zero-mul, zero-mul, zero-mul) refl
  | inr e ↦ rw (e, one-mul, one-mul, one-mul) refl
]

doubled : (a b : ℕ) → bit_xor a b * 2 ≡ bit_xor (a * 2) (b * 2)
doubled a b = sym (simp add-zero at (xor_block 1 a b 0 0 (omega arith) (omega arith)))

pub times_x-xor : (a b : ℕ) → a < 256 → b < 256 → times_x (bit_xor a b) ≡ bit_xor (times_x a) (times_x b)
times_x-xor a b p q =
    let top : bit_xor a b / 128 ≡ bit_xor (a / 128) (b / 128) = xor_shr a b 7 in
    rw (flat (bit_xor a b) (xor_of_bytes a b p q), flat a p, flat b q, doubled a b, top, bit_times (a / 128) (b / 128) (omega arith) (omega arith))
    (xor_swap (a * 2) (b * 2) (a / 128 * 0x11b) (b / 128 * 0x11b))

-- ---- products

product_of_bits-lt : (n b a : ℕ) → a < 256 → product_of_bits n b a < 256
unfolding product_of_bits
product_of_bits-lt zero b a h = omega arith
product_of_bits-lt (suc n) b a h =
    let part : b % 2 * a < 256 = elim (bit_cases (b % 2) (omega arith)) [
      | inl e ↦ rw (e, zero-mul) (omega arith)
      | inr e ↦ rw (e, one-mul) h
    ] in
    xor_of_bytes (b % 2 * a) (times_x (product_of_bits n (b / 2) a)) part (times_x-lt (product_of_bits n (b / 2) a) (product_of_bits-lt n (b / 2) a h))

pub product-lt : (b a : ℕ) → a < 256 → product b a < 256
unfolding product
product-lt b a h = product_of_bits-lt 8 b a h

product_of_bits-xor : (n b u v : ℕ) → u < 256 → v < 256 → product_of_bits n b (bit_xor u v) ≡ bit_xor (product_of_bits n b u) (product_of_bits n b v)
unfolding product_of_bits
product_of_bits-xor zero b u v p q = refl
product_of_bits-xor (suc n) b u v p q =
    let x : ℕ = product_of_bits n (b / 2) u in
    let y : ℕ = product_of_bits n (b / 2) v in
    rw (product_of_bits-xor n (b / 2) u v p q, times_x-xor x y (product_of_bits-lt n (b / 2) u p) (product_of_bits-lt n (b / 2) v q), bit_times_sum (b % 2) u v (omega arith))
    (xor_swap (b % 2 * u) (b % 2 * v) (times_x x) (times_x y))

-- a product is additive in its second factor
pub product-xor : (b u v : ℕ) → u < 256 → v < 256 → product b (bit_xor u v) ≡ bit_xor (product b u) (product b v)
unfolding product
product-xor b u v p q = product_of_bits-xor 8 b u v p q

-- a power of x is a byte
pub power-lt : (n : ℕ) → power 2 n < 256
unfolding power
power-lt zero = omega arith
power-lt (suc n) = product-lt 2 (power 2 n) (power-lt n)
