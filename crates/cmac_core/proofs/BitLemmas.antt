-- The bits of numbers.
use Rattle.std.proofs.Common.{◌≡◌, ℕ, zero, suc, ◌+◌, ◌*◌, ◌/◌, ◌%◌, ◌^◌, ◌<◌, ◌≤◌, Bool, true, false, cond, eqb, List, [], ◌∷◌, ◌++◌, length, drop, bit_xor, refl, sym, ap, ◌∙◌, arith}
use Rattle.std.proofs.lemmas.Nat.{shr-shr, mod-pow-add}
use Rattle.std.proofs.lemmas.Nat.Bits.{bit_at_xor, bit_at-lt, bit_at_cat_low}
use Rattle.std.specs.Int.{bit_at}
use Rattle.gf2_polynomial.specs.Polynomial.{coefficient, coefficient_sum, polynomial_sum}
use Rattle.cmac_core.specs.Field.{bits, number_of}

pub length-bits : (k n : ℕ) → length (bits k n) ≡ k
unfolding bits
length-bits zero n = refl
length-bits (suc k) n = ap suc (length-bits k n)

-- the lowest bit comes last
pub bits_last : (k n : ℕ) → bits (suc k) n ≡ bits k (n / 2) ++ eqb (n % 2) 1 ∷ []
unfolding bits
bits_last zero n =
    let whole : n / 1 ≡ n = omega arith in
    rw whole refl
bits_last (suc k) n =
    let deeper : n / 2 / 2 ^ k ≡ n / 2 ^ suc k = shr-shr n 1 k ∙ ap (λ (j : ℕ). n / 2 ^ j) (omega arith) in
    rw (deeper, ← bits_last k n) refl

-- the highest bit comes first
pub first_bit : (k n : ℕ) → coefficient (bits (suc k) n) 0 ≡ eqb (n / 2 ^ k % 2) 1
unfolding bits
first_bit k n = refl

pub after_first_bit : (k n : ℕ) → drop 1 (bits (suc k) n) ≡ bits k n
unfolding bits
after_first_bit k n = refl

-- bits below k are those of the number below
pub bits_low : (j k a r : ℕ) → j ≤ k → bits j (a * 2 ^ k + r) ≡ bits j r
unfolding bits
bits_low zero k a r h = refl
bits_low (suc j) k a r h = rw (bit_at_cat_low a k r j (omega arith), bits_low j k a r (omega arith)) refl

-- the bit of an exclusive or
xor_bit : (a b : ℕ) → a < 2 → b < 2 → eqb ((a + b) % 2) 1 ≡ coefficient_sum (eqb a 1) (eqb b 1)
xor_bit zero zero h g = refl
xor_bit zero (suc zero) h g = refl
xor_bit (suc zero) zero h g = refl
xor_bit (suc zero) (suc zero) h g = refl
xor_bit zero (suc (suc b)) h g = absurd (omega arith)
xor_bit (suc zero) (suc (suc b)) h g = absurd (omega arith)
xor_bit (suc (suc a)) b h g = absurd (omega arith)

pub bits-xor : (k a b : ℕ) → bits k (bit_xor a b) ≡ polynomial_sum (bits k a) (bits k b)
unfolding bits
bits-xor zero a b = refl
bits-xor (suc k) a b =
    rw (bit_at_xor a b k, xor_bit (bit_at a k) (bit_at b k) (bit_at-lt a k) (bit_at-lt b k), bits-xor k a b) refl

-- ---- back to numbers

worth : (w bit : ℕ) → bit < 2 → cond (eqb bit 1) w 0 ≡ bit * w
worth w zero h = omega arith
worth w (suc zero) h = omega arith
worth w (suc (suc bit)) h = absurd (omega arith)

pub number_of-bits : (k n : ℕ) → number_of (bits k n) ≡ n % 2 ^ k
unfolding bits number_of
number_of-bits zero n = omega arith
number_of-bits (suc k) n =
    let more : suc k ≡ 1 + k = omega arith in
    let high : n / 2 ^ k % 2 < 2 = omega arith in
    rw (length-bits k n, number_of-bits k n, worth (2 ^ k) (n / 2 ^ k % 2) high, more, mod-pow-add n 1 k) refl
