-- The 254th power of a byte is its multiplicative inverse.
use Rattle.std.proofs.Common.{◌≡◌, ℕ, zero, suc, ◌<◌, refl, ◌∙◌, arith}
use Rattle.aes_core.specs.Field.{times_x, product_of_bits, product, power, inverse}
use Rattle.aes_core.proofs.EachByte.{at_each_byte}

-- 0 for the byte 0, and 1 for the others
abbrev unit_or_zero : ℕ → ℕ
unit_or_zero zero = 0
unit_or_zero (suc n) = 1

product_at : (a : ℕ) → a < 256 → product a (inverse a) ≡ unit_or_zero a
unfolding times_x product_of_bits product power inverse
product_at = at_each_byte (λ a. product a (inverse a)) unit_or_zero refl

unit : (a : ℕ) → 0 < a → unit_or_zero a ≡ 1
unit zero h = absurd (omega arith)
unit (suc n) h = refl

pub product_of_inverse : (a : ℕ) → 0 < a → a < 256 → product a (inverse a) ≡ 1
product_of_inverse a p h = product_at a h ∙ unit a p

pub inverse_of_zero : inverse 0 ≡ 0
unfolding times_x product_of_bits product power inverse
inverse_of_zero = refl
