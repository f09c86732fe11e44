-- Bytes by the table of the first place, words of four bytes by four tables, and groups of four words.
use Rattle.std.proofs.Common.{◌≡◌, ℕ, ◌+◌, ◌*◌, ◌/◌, ◌%◌, ◌^◌, ◌<◌, ◌++◌, List, [], ◌∷◌, get_or, bit_xor, bit_and, refl, sym, ap, ◌∙◌, arith}
use Rattle.std.proofs.lemmas.Nat.{xor_comm, xor_shr, and_mask, xor_lt}
use lib.Bits.{xor_assoc, xor_shifted, xor_zero_r}
use Rattle.bp_crc.specs.Check.{number_of, generator}
use Rattle.bp_crc.specs.Table.{register_of, bits_remainder, AreTables}
use Rattle.bp_crc.proofs.Numbers.{steps, steps-add, steps-xor, steps-shifted, steps-byte}
use Rattle.bp_crc.proofs.Register.{register_of-push, bits_remainder-steps, bits_remainder-lt}

-- steps after steps, where something is added between
pub steps-between : (t m n x y : ℕ) → steps t n (bit_xor (steps t m x) y) ≡ bit_xor (steps t (m + n) x) (steps t n y)
steps-between t m n x y = steps-xor t n (steps t m x) y ∙ ap (λ z. bit_xor z (steps t n y)) (sym (steps-add t m n x))

-- what is added m steps later is added m bits higher
pub steps-later : (t m n x a b : ℕ) → a < 2 ^ m
    → steps t n (bit_xor (steps t m (bit_xor x a)) b) ≡ steps t (m + n) (bit_xor x (a + b * 2 ^ m))
steps-later t m n x a b h =
    let high : bit_xor (b * 2 ^ m) a ≡ b * 2 ^ m + a = xor_shifted b m a h in
    let both : bit_xor a (b * 2 ^ m) ≡ a + b * 2 ^ m = xor_comm a (b * 2 ^ m) ∙ omega (arith, high) in
    ap (λ y. steps t n (bit_xor (steps t m (bit_xor x a)) y)) (sym (steps-shifted t m b))
    ∙ ap (steps t n) (sym (steps-xor t m (bit_xor x a) (b * 2 ^ m)))
    ∙ sym (steps-add t m n (bit_xor (bit_xor x a) (b * 2 ^ m)))
    ∙ ap (steps t (m + n)) (xor_assoc x a (b * 2 ^ m) ∙ ap (bit_xor x) both)

-- the lowest byte apart from the others
steps-low : (t n k x : ℕ) → n ≡ 8 + k → steps t n x ≡ bit_xor (steps t n (x % 256)) (steps t k (x / 256))
steps-low t n k x e =
    ap (λ m. steps t m x) e ∙ steps-add t 8 k x ∙ ap (steps t k) (steps-byte t x) ∙ steps-between t 8 k (x % 256) (x / 256)
    ∙ ap (λ m. bit_xor (steps t m (x % 256)) (steps t k (x / 256))) (sym e)

div_small : (n : ℕ) → n < 2 ^ 8 → n / 2 ^ 8 ≡ 0
div_small n h = omega arith

-- what one byte makes of a register by the first table
abbrev pub turn : List (List ℕ) → ℕ → ℕ → ℕ
turn tables register byte =
    bit_xor (get_or (get_or tables 0 []) (bit_and (bit_xor register byte) 255) 0) (register / 2 ^ 8)

module _ (w words : ℕ) (tables : List (List ℕ)) (are : AreTables w words tables) where
  t : ℕ
  t = number_of (generator w)

  -- an entry by steps
  entry : (zeros byte x : ℕ) → zeros < 4 → x < 2 ^ 8 → byte ≡ x
      → get_or (get_or tables zeros []) byte 0 ≡ steps t (8 + 8 * (4 * words + zeros)) x
  unfolding t
  entry zeros byte x within below e =
      ap (λ i. get_or (get_or tables zeros []) i 0) e ∙ are zeros x within (omega arith)
      ∙ bits_remainder-steps w 8 (4 * words + zeros) x below

  -- the remainder of a word is the sum of its bytes' entries
  pub bits_remainder-word : (x : ℕ) → x < 2 ^ 32
      → bit_xor
      (bit_xor
      (bit_xor (get_or (get_or tables 3 []) (bit_and x 255) 0) (get_or (get_or tables 2 []) (bit_and (x / 2 ^ 8) 255) 0))
      (get_or (get_or tables 1 []) (bit_and (x / 2 ^ 16) 255) 0))
      (get_or (get_or tables 0 []) (x / 2 ^ 24) 0)
      ≡ bits_remainder w 32 (4 * words) x
  unfolding t
  bits_remainder-word x h =
      let all : ℕ = 32 + 8 * (4 * words) in
      let a : ℕ = x % 256 in
      let b : ℕ = x / 2 ^ 8 % 256 in
      let c : ℕ = x / 2 ^ 16 % 256 in
      let d : ℕ = x / 2 ^ 24 in
      let sa : ℕ = steps t (8 + 8 * (4 * words + 3)) a in
      let sb : ℕ = steps t (8 + 8 * (4 * words + 2)) b in
      let sc : ℕ = steps t (8 + 8 * (4 * words + 1)) c in
      let sd : ℕ = steps t (8 + 8 * (4 * words + 0)) d in
      let ea : get_or (get_or tables 3 []) (bit_and x 255) 0 ≡ sa = entry 3 (bit_and x 255) a (omega arith) (omega arith) (and_mask x 8) in
      let eb : get_or (get_or tables 2 []) (bit_and (x / 2 ^ 8) 255) 0 ≡ sb =
      entry 2 (bit_and (x / 2 ^ 8) 255) b (omega arith) (omega arith) (and_mask (x / 2 ^ 8) 8) in
      let ec : get_or (get_or tables 1 []) (bit_and (x / 2 ^ 16) 255) 0 ≡ sc =
      entry 1 (bit_and (x / 2 ^ 16) 255) c (omega arith) (omega arith) (and_mask (x / 2 ^ 16) 8) in
      let ed : get_or (get_or tables 0 []) (x / 2 ^ 24) 0 ≡ sd = entry 0 (x / 2 ^ 24) d (omega arith) (omega arith) refl in
      let whole : all ≡ 8 + 8 * (4 * words + 3) = omega arith in
      let second : x / 2 ^ 8 / 256 ≡ x / 2 ^ 16 = omega arith in
      let third : x / 2 ^ 16 / 256 ≡ x / 2 ^ 24 = omega arith in
      let split : steps t all x ≡ bit_xor sa (bit_xor sb (bit_xor sc sd)) =
      ap (λ n. steps t n x) whole
      ∙ steps-low t (8 + 8 * (4 * words + 3)) (8 + 8 * (4 * words + 2)) x (omega arith)
      ∙ ap (bit_xor sa) (steps-low t (8 + 8 * (4 * words + 2)) (8 + 8 * (4 * words + 1)) (x / 2 ^ 8) (omega arith)
      ∙ ap (bit_xor sb) (ap (steps t (8 + 8 * (4 * words + 1))) second
      ∙ steps-low t (8 + 8 * (4 * words + 1)) (8 + 8 * (4 * words + 0)) (x / 2 ^ 16) (omega arith)
      ∙ ap (bit_xor sc) (ap (steps t (8 + 8 * (4 * words + 0))) third))) in
      rw (ea, eb, ec, ed)
      (xor_assoc (bit_xor sa sb) sc sd ∙ xor_assoc sa sb (bit_xor sc sd)
      ∙ sym split ∙ sym (bits_remainder-steps w 32 (4 * words) x h))

-- one more byte
module _ (w : ℕ) (tables : List (List ℕ)) (are : AreTables w 0 tables) where
  looked_up : (byte x : ℕ) → byte ≡ x → x < 2 ^ 8 → get_or (get_or tables 0 []) byte 0 ≡ bits_remainder w 8 0 x
  looked_up byte x e h = ap (λ i. get_or (get_or tables 0 []) i 0) e ∙ are 0 x (omega arith) (omega arith)

  -- it fits in the width
  pub turn-lt : (register byte : ℕ) → register < 2 ^ w → turn tables register byte < 2 ^ w
  turn-lt register byte h =
      let mixed : ℕ = bit_xor register byte in
      let entry : get_or (get_or tables 0 []) (bit_and mixed 255) 0 < 2 ^ w =
      rw (looked_up (bit_and mixed 255) (mixed % 2 ^ 8) (and_mask mixed 8) (omega arith)) (bits_remainder-lt w 8 0 (mixed % 2 ^ 8)) in
      xor_lt w (get_or (get_or tables 0 []) (bit_and mixed 255) 0) (register / 2 ^ 8) entry (omega arith)

  -- and takes the byte in
  pub turn-register_of : (fed : List ℕ) (byte : ℕ) → byte < 2 ^ 8
      → turn tables (register_of w fed) byte ≡ register_of w (fed ++ byte ∷ [])
  turn-register_of fed byte h =
      let register : ℕ = register_of w fed in
      let mixed : ℕ = bit_xor register byte in
      let t : ℕ = number_of (generator w) in
      let high : mixed / 2 ^ 8 ≡ register / 2 ^ 8 = xor_shr register byte 8 ∙ rw (div_small byte h) (xor_zero_r (register / 2 ^ 8)) in
      ap (λ x. bit_xor x (register / 2 ^ 8))
      (looked_up (bit_and mixed 255) (mixed % 2 ^ 8) (and_mask mixed 8) (omega arith)
      ∙ bits_remainder-steps w 8 0 (mixed % 2 ^ 8) (omega arith))
      ∙ ap (bit_xor (steps t 8 (mixed % 2 ^ 8))) (sym high)
      ∙ sym (steps-byte t mixed) ∙ sym (register_of-push w fed byte h)
