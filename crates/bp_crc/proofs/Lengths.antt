-- How many coefficients the polynomials have, and what that says of their numbers.
use Rattle.std.proofs.Common.{◌≡◌, ℕ, zero, suc, ◌+◌, ◌-◌, ◌*◌, ◌/◌, ◌%◌, ◌^◌, ◌<◌, ◌≤◌, Bool, true, false, not, List, [], ◌∷◌, ◌++◌, map, length, replicate, refl, sym, ap, ◌∙◌, arith, inl, inr, lit<, length-append, append_assoc, append-nil}
use Rattle.std.proofs.lemmas.Nat.{pow_pos}
use Rattle.std.proofs.lemmas.List.{length-reverse, length-replicate}
use Rattle.std.proofs.Math.Nat.{pow-suc}
use Rattle.gf2_polynomial.proofs.Sums.{length-sum_max}
use Rattle.bp_crc.specs.Polynomial.{raised, reduced, divided, remainder}
use Rattle.bp_crc.proofs.Numbers.{below_two}
use Rattle.bp_crc.specs.Check.{bits_of, number_of, generator, message_bits, dividend}

pub length-raised : (p : List Bool) (k : ℕ) → length (raised p k) ≡ length p + k
length-raised p k = length-append p (replicate k false) ∙ ap (λ n. length p + n) (length-replicate k false)

pub length-bits_of : (k n : ℕ) → length (bits_of k n) ≡ k
unfolding bits_of
length-bits_of zero n = refl
length-bits_of (suc k) n = ap suc (length-bits_of k (n / 2))

pub length-generator : (w : ℕ) → length (generator w) ≡ w
unfolding generator
length-generator w = length-reverse _ ∙ length-bits_of w _

pub length-reduced : (low d : List Bool) → suc (length low) ≤ length d → length (reduced low d) + 1 ≡ length d
unfolding reduced
length-reduced low [] h = omega arith
length-reduced low (false ∷ rest) h = omega arith
length-reduced low (true ∷ rest) h = omega (arith, length-sum_max low rest)

pub length-divided : (low : List Bool) (n : ℕ) (d : List Bool) → length d ≡ n + length low → length (divided low n d) ≡ length low
unfolding divided
length-divided low zero d e = omega arith
length-divided low (suc n) d e =
    let left : length (reduced low d) + 1 ≡ length d = length-reduced low d (omega arith) in
    length-divided low n (reduced low d) (omega arith)

-- so many steps as there are coefficients more than the divisor's lower ones
pub remainder-divided : (low d : List Bool) (n : ℕ) → length d ≡ n + length low → remainder low d ≡ divided low n d
unfolding remainder
remainder-divided low d n e = let steps : length d - length low ≡ n = omega arith in ap (λ k. divided low k d) steps

pub length-remainder : (low d : List Bool) (n : ℕ) → length d ≡ n + length low → length (remainder low d) ≡ length low
length-remainder low d n e = ap length (remainder-divided low d n e) ∙ length-divided low n d e

pub length-dividend : (w : ℕ) (bytes : List ℕ) → length (dividend w bytes) ≡ length (message_bits bytes) + length (generator w)
unfolding dividend
length-dividend w bytes =
    let message : List Bool = message_bits bytes in
    omega (
      arith,
      length-sum_max (raised message w) (raised (replicate w true) (length message)),
      length-raised message w,
      length-raised (replicate w true) (length message),
      length-replicate w true,
      length-generator w,
    )

-- the remainder has w coefficients
pub length-check : (w : ℕ) (bytes : List ℕ) → length (remainder (generator w) (dividend w bytes)) ≡ w
length-check w bytes =
    length-remainder (generator w) (dividend w bytes) (length (message_bits bytes)) (length-dividend w bytes) ∙ length-generator w

pub message_bits-push : (bytes : List ℕ) (byte : ℕ) → message_bits (bytes ++ byte ∷ []) ≡ message_bits bytes ++ bits_of 8 byte
unfolding message_bits
message_bits-push [] byte = append-nil (bits_of 8 byte)
message_bits-push (first ∷ rest) byte =
    ap (λ bits. bits_of 8 first ++ bits) (message_bits-push rest byte) ∙ sym (append_assoc (bits_of 8 first) (message_bits rest) (bits_of 8 byte))

pub number_of-lt : (p : List Bool) → number_of p < 2 ^ length p
unfolding number_of
number_of-lt [] = lit< tt
number_of-lt (false ∷ p) = rw pow-suc (omega (arith, number_of-lt p))
number_of-lt (true ∷ p) = rw pow-suc (omega (arith, number_of-lt p))

pub number_of-append : (p q : List Bool) → number_of (p ++ q) ≡ number_of p + number_of q * 2 ^ length p
unfolding number_of
number_of-append [] q = omega arith
number_of-append (b ∷ p) q = rw (number_of-append p q, pow-suc) (omega arith)

number_of-zeros : (k : ℕ) → number_of (replicate k false) ≡ 0
unfolding number_of
number_of-zeros zero = refl
number_of-zeros (suc k) = omega (arith, number_of-zeros k)

-- x^k is below the lowest power that the number shows
pub number_of-raised : (p : List Bool) (k : ℕ) → number_of (raised p k) ≡ number_of p
number_of-raised p k = number_of-append p (replicate k false) ∙ rw number_of-zeros (omega arith)

pub number_of-ones : (k : ℕ) → number_of (replicate k true) ≡ 2 ^ k - 1
unfolding number_of
number_of-ones zero = refl
number_of-ones (suc k) = rw pow-suc (omega (arith, number_of-ones k, pow_pos k))

pub number_of-bits_of : (k n : ℕ) → n < 2 ^ k → number_of (bits_of k n) ≡ n
unfolding number_of bits_of
number_of-bits_of zero n h = omega arith
number_of-bits_of (suc k) n h =
    let within : n < 2 ^ k * 2 = rw pow-suc at h in
    let half : number_of (bits_of k (n / 2)) ≡ n / 2 = number_of-bits_of k (n / 2) (omega arith) in
    elim (below_two (n % 2) (omega arith)) [ inl even ↦ rw (half, even) (omega arith) | inr odd ↦ rw (half, odd) (omega arith) ]

pub number_of-not : (p : List Bool) → number_of (map not p) + number_of p + 1 ≡ 2 ^ length p
unfolding number_of
number_of-not [] = refl
number_of-not (false ∷ p) = rw pow-suc (omega (arith, number_of-not p))
number_of-not (true ∷ p) = rw pow-suc (omega (arith, number_of-not p))
