-- The register: the number of the remainder over the bytes so far. One more byte is eight steps, or one look-up.
use Rattle.std.proofs.Common.{◌≡◌, ℕ, ◌+◌, ◌-◌, ◌*◌, ◌^◌, ◌<◌, Bool, true, not, List, [], ◌∷◌, ◌++◌, map, length, replicate, bit_xor, bit_and, refl, sym, ap, subst, ◌∙◌, arith, length-append}
use Rattle.std.proofs.lemmas.Nat.{and_mask}
use Rattle.bp_crc.specs.Polynomial.{raised, remainder}
use Rattle.bp_crc.specs.Check.{bits_of, number_of, generator, message_bits, dividend, check}
use Rattle.bp_crc.specs.Table.{register_of, bits_remainder}
use Rattle.bp_crc.proofs.Numbers.{number_of-sum, number_of-divided, steps, steps-add, steps-xor, steps-shifted}
use Rattle.bp_crc.proofs.Lengths.{length-dividend, length-raised, length-bits_of, length-generator, length-remainder, length-check, remainder-divided, message_bits-push, number_of-lt, number_of-append, number_of-raised, number_of-ones, number_of-bits_of, number_of-not}
use Rattle.std.proofs.lemmas.List.{length-map}
use Rattle.std.proofs.Math.Nat.{mod-eq_of_lt}
use lib.Bits.{xor_assoc, xor_comm, xor_add_and, xor_shifted}

-- the remainder of the message by its steps: its bits, with the first w of them turned
register_of-steps : (w : ℕ) (bytes : List ℕ)
    → register_of w bytes ≡ steps (number_of (generator w)) (length (message_bits bytes)) (bit_xor (number_of (message_bits bytes)) (2 ^ w - 1))
unfolding register_of dividend
register_of-steps w bytes =
    let message : List Bool = message_bits bytes in
    let n : ℕ = length message in
    let number : number_of (dividend w bytes) ≡ bit_xor (number_of message) (2 ^ w - 1) =
    number_of-sum (raised message w) (raised (replicate w true) n)
    ∙ rw (number_of-raised message w, number_of-raised (replicate w true) n, number_of-ones w) refl in
    ap number_of (remainder-divided (generator w) (dividend w bytes) n (length-dividend w bytes))
    ∙ number_of-divided (generator w) n (dividend w bytes) ∙ ap (steps (number_of (generator w)) n) number

-- one more byte is added at the register's highest powers, and divided by eight steps
pub register_of-push : (w : ℕ) (bytes : List ℕ) (byte : ℕ) → byte < 2 ^ 8
    → register_of w (bytes ++ byte ∷ []) ≡ steps (number_of (generator w)) 8 (bit_xor (register_of w bytes) byte)
register_of-push w bytes byte h =
    let t : ℕ = number_of (generator w) in
    let message : List Bool = message_bits bytes in
    let n : ℕ = length message in
    let more : List Bool = message ++ bits_of 8 byte in
    let start : ℕ = bit_xor (number_of message) (2 ^ w - 1) in
    let count : length more ≡ n + 8 = length-append message (bits_of 8 byte) ∙ ap (λ k. n + k) (length-bits_of 8 byte) in
    let number : number_of more ≡ bit_xor (byte * 2 ^ n) (number_of message) =
    number_of-append message (bits_of 8 byte)
    ∙ rw (number_of-bits_of 8 byte h) (omega (arith, xor_shifted byte n (number_of message) (number_of-lt message))) in
    let turned : bit_xor (number_of more) (2 ^ w - 1) ≡ bit_xor start (byte * 2 ^ n) =
    ap (λ x. bit_xor x (2 ^ w - 1)) number ∙ xor_assoc (byte * 2 ^ n) (number_of message) (2 ^ w - 1) ∙ xor_comm (byte * 2 ^ n) start in
    register_of-steps w (bytes ++ byte ∷ [])
    ∙ ap (λ (bits : List Bool). steps t (length bits) (bit_xor (number_of bits) (2 ^ w - 1))) (message_bits-push bytes byte)
    ∙ ap (λ k. steps t k (bit_xor (number_of more) (2 ^ w - 1))) count
    ∙ ap (steps t (n + 8)) turned
    ∙ steps-add t n 8 (bit_xor start (byte * 2 ^ n))
    ∙ ap (steps t 8) (steps-xor t n start (byte * 2 ^ n)
    ∙ ap (λ x. bit_xor (steps t n start) x) (steps-shifted t n byte)
    ∙ ap (λ x. bit_xor x byte) (sym (register_of-steps w bytes)))

length-shifted : (w size zeros n : ℕ)
    → length (raised (bits_of size n) (8 * zeros + w)) ≡ size + 8 * zeros + length (generator w)
length-shifted w size zeros n = omega (arith, length-raised (bits_of size n) (8 * zeros + w), length-bits_of size n, length-generator w)

-- the remainder of bits with zero bytes behind them is so many steps from the bits
pub bits_remainder-steps : (w size zeros n : ℕ) → n < 2 ^ size
    → bits_remainder w size zeros n ≡ steps (number_of (generator w)) (size + 8 * zeros) n
unfolding bits_remainder
bits_remainder-steps w size zeros n h =
    let bits : List Bool = raised (bits_of size n) (8 * zeros + w) in
    let count : ℕ = size + 8 * zeros in
    ap number_of (remainder-divided (generator w) bits count (length-shifted w size zeros n))
    ∙ number_of-divided (generator w) count bits
    ∙ ap (steps (number_of (generator w)) count) (number_of-raised (bits_of size n) (8 * zeros + w) ∙ number_of-bits_of size n h)

-- and fits in the width
pub bits_remainder-lt : (w size zeros n : ℕ) → bits_remainder w size zeros n < 2 ^ w
unfolding bits_remainder
bits_remainder-lt w size zeros n =
    let bits : List Bool = raised (bits_of size n) (8 * zeros + w) in
    let r : List Bool = remainder (generator w) bits in
    let same : length r ≡ w = length-remainder (generator w) bits (size + 8 * zeros) (length-shifted w size zeros n) ∙ length-generator w in
    subst (λ k. number_of r < 2 ^ k) same (number_of-lt r)

-- nothing fed yet: the register is ones
pub register_of-none : (w : ℕ) → register_of w [] ≡ 2 ^ w - 1
unfolding message_bits steps number_of
register_of-none w = register_of-steps w []

-- the check is the register with each bit turned
pub check-register_of : (w : ℕ) (fed : List ℕ) → check w fed ≡ bit_xor (register_of w fed) (2 ^ w - 1)
unfolding check register_of
check-register_of w fed =
    let r : List Bool = remainder (generator w) (dividend w fed) in
    let n : ℕ = number_of r in
    let power : 2 ^ length r ≡ 2 ^ w = ap (λ k. 2 ^ k) (length-check w fed) in
    let within : n < 2 ^ w = subst (λ k. n < k) power (number_of-lt r) in
    let masked : bit_and n (2 ^ w - 1) ≡ n = and_mask n w ∙ mod-eq_of_lt within in
    omega (arith, number_of-not r, power, xor_add_and n (2 ^ w - 1), masked)

pub check-lt : (w : ℕ) (bytes : List ℕ) → check w bytes < 2 ^ w
unfolding check
check-lt w bytes =
    let r : List Bool = remainder (generator w) (dividend w bytes) in
    let len : length (map not r) ≡ w = length-map r not ∙ length-check w bytes in
    subst (λ k. number_of (map not r) < 2 ^ k) len (number_of-lt (map not r))
