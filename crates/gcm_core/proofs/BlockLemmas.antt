-- Blocks as numbers of 128 bits, the first byte the highest.
use Rattle.std.proofs.Common.{◌≡◌, ℕ, zero, suc, ◌+◌, ◌-◌, ◌*◌, ◌/◌, ◌%◌, ◌^◌, ◌<◌, ◌≤◌, Bool, eqb, List, [], ◌∷◌, ◌++◌, length, take, replicate, get_or, slice_index, refl, sym, ap, ◌∙◌, arith, zero-add, add-one}
use Rattle.std.proofs.Math.Nat.{pow-suc}
use Rattle.std.proofs.lemmas.List.{take_all, length_push}
use Rattle.std.proofs.lemmas.Nat.{shr-shr, pow-add, div-mul-add, mul-add-lt}
use Rattle.std.proofs.lemmas.Nat.Bits.{bit_at_cat_low}
use Rattle.std.specs.List.{All, AllByRecursion}
use Rattle.std.proofs.lemmas.List.Elements.{recursion_from_All}
use Rattle.std.proofs.Math.Seq.{take-suc}
use Rattle.std.specs.Int.{w128, byte_at, byte_worth, bytes_high_first, sum_through, from_be_bytes}
use Rattle.gcm_core.specs.Block.{bits, polynomial_of, block_of, worth}

pub pow_eight : (n : ℕ) → 2 ^ (8 * n) ≡ 256 ^ n
pow_eight zero = refl
pow_eight (suc n) =
    let more : 8 * suc n ≡ 8 * n + 8 = omega arith in
    rw (more, pow-add 2 (8 * n) 8, pow_eight n) (sym (pow-suc 256 n))

-- the bits of a number from bit k on, and those below
pub bits-add : (j k n : ℕ) → bits (j + k) n ≡ bits j (n / 2 ^ k) ++ bits k n
unfolding bits
bits-add zero k n = rw (zero-add k) refl
bits-add (suc j) k n =
    let more : suc j + k ≡ suc (j + k) = omega arith in
    let deeper : n / 2 ^ k / 2 ^ j ≡ n / 2 ^ (j + k) = shr-shr n k j ∙ ap (λ (i : ℕ). n / 2 ^ i) (omega arith) in
    rw (more, deeper, ← bits-add j k n) refl

-- bits below k are those of the number below
pub bits_low : (j k a r : ℕ) → j ≤ k → bits j (a * 2 ^ k + r) ≡ bits j r
unfolding bits
bits_low zero k a r h = refl
bits_low (suc j) k a r h = rw (bit_at_cat_low a k r j (omega arith), bits_low j k a r (omega arith)) refl

-- ---- bytes to a number

-- the number that bytes spell, the first the highest
abbrev pub value : List ℕ → ℕ
value [] = 0
value (b ∷ bytes) = b * 256 ^ length bytes + value bytes

-- each number is a byte
abbrev pub Bytes : List ℕ → Type 0
Bytes bytes = AllByRecursion (λ b. b < 256) bytes

pub Bytes_from : (bytes : List ℕ) → ((i : ℕ) → get_or bytes i 0 < 256) → Bytes bytes
Bytes_from [] h = tt
Bytes_from (b ∷ bytes) h = (h 0, Bytes_from bytes (λ i. h (suc i)))

pub Bytes-append : (a b : List ℕ) → Bytes a → Bytes b → Bytes (a ++ b)
Bytes-append [] b h g = g
Bytes-append (x ∷ a) b h g = (h.0, Bytes-append a b h.1 g)

pub Bytes_zeros : (n : ℕ) → Bytes (replicate n 0)
Bytes_zeros zero = tt
Bytes_zeros (suc n) = (omega arith, Bytes_zeros n)

pub value_below : (bytes : List ℕ) → Bytes bytes → value bytes < 256 ^ length bytes
value_below [] h = omega arith
value_below (b ∷ bytes) h =
    rw (pow-suc 256 (length bytes)) (mul-add-lt b (256 ^ length bytes) (value bytes) 256 h.0 (value_below bytes h.1))

pub bits-value : (bytes : List ℕ) → Bytes bytes → bits (8 * length bytes) (value bytes) ≡ polynomial_of bytes
unfolding bits
bits-value [] h = refl
bits-value (b ∷ bytes) h =
    let k : ℕ = 8 * length bytes in
    let more : 8 * suc (length bytes) ≡ 8 + k = omega arith in
    let place : 256 ^ length bytes ≡ 2 ^ k = sym (pow_eight (length bytes)) in
    let below : value bytes < 2 ^ k = rw (← place) (value_below bytes h.1) in
    let first : (b * 2 ^ k + value bytes) / 2 ^ k ≡ b = div-mul-add b (2 ^ k) (value bytes) below in
    let rest : bits k (b * 2 ^ k + value bytes) ≡ polynomial_of bytes = bits_low k k b (value bytes) (omega arith) ∙ bits-value bytes h.1 in
    rw (place, more, bits-add 8 k (b * 2 ^ k + value bytes), first, rest) refl

value_push : (bytes : List ℕ) (x : ℕ) → value (bytes ++ x ∷ []) ≡ value bytes * 256 + x
value_push [] x = omega arith
value_push (b ∷ bytes) x = rw (length_push bytes x, add-one, pow-suc 256 (length bytes), value_push bytes x) (omega arith)

byte_worth_is : (n b : ℕ) → byte_worth n b ≡ b * 256 ^ n
byte_worth_is zero b = omega arith
byte_worth_is (suc n) b = refl

worth_through : (bytes : List ℕ) (top j : ℕ) → j ≤ top → j < length bytes
    → sum_through (λ i. byte_worth (top - i) (slice_index bytes i)) j ≡ value (take (suc j) bytes) * 256 ^ (top - j)
worth_through [] top j h g = absurd (omega arith)
worth_through (b ∷ bytes) top zero h g = byte_worth_is (top - 0) b ∙ ap (λ (v : ℕ). v * 256 ^ (top - 0)) (omega arith)
worth_through (b ∷ bytes) top (suc j) h g =
    let one_less : top - j ≡ suc (top - suc j) = omega arith in
    let grown : value (take (suc (suc j)) (b ∷ bytes)) ≡ value (take (suc j) (b ∷ bytes)) * 256 + get_or (b ∷ bytes) (suc j) 0 =
    ap value (take-suc (b ∷ bytes) (suc j) 0 g) ∙ value_push (take (suc j) (b ∷ bytes)) (get_or (b ∷ bytes) (suc j) 0) in
    rw (
      worth_through (b ∷ bytes) top j (omega arith) (omega arith),
      one_less,
      pow-suc 256 (top - suc j),
      byte_worth_is (top - suc j)
          (slice_index (b ∷ bytes) (suc j)),
      grown,
    ) (omega arith)

from_be_bytes_value : (bytes : List ℕ) → length bytes ≡ 16 → from_be_bytes w128 bytes ≡ value bytes
from_be_bytes_value bytes h =
    worth_through bytes 15 15 (omega arith) (omega arith) ∙ rw (take_all 16 bytes (omega arith)) (omega arith)

-- the number of a block has its bits
pub bits-from_be_bytes : (bytes : List ℕ) → length bytes ≡ 16 → Bytes bytes → bits 128 (from_be_bytes w128 bytes) ≡ polynomial_of bytes
bits-from_be_bytes bytes h b =
    ap (bits 128) (from_be_bytes_value bytes h) ∙ ap (λ (n : ℕ). bits (8 * n) (value bytes)) (sym h) ∙ bits-value bytes b

-- ---- a number to bytes

worth_of : (w y : ℕ) → y < 2 → worth w (eqb y 1) ≡ w * y
worth_of w zero h = omega arith
worth_of w (suc zero) h = omega arith
worth_of w (suc (suc y)) h = absurd (omega arith)

worth_bit : (w x : ℕ) → worth w (eqb (x % 2) 1) ≡ w * (x % 2)
worth_bit w x = worth_of w (x % 2) (omega arith)

block_of_byte : (m : ℕ) (p : List Bool) → block_of (bits 8 m ++ p) ≡ m % 256 ∷ block_of p
unfolding bits
block_of_byte m p =
    rw (
      worth_bit 128 (m / 128),
      worth_bit 64 (m / 64),
      worth_bit 32 (m / 32),
      worth_bit 16 (m / 16),
      worth_bit 8 (m / 8),
      worth_bit 4
          (m / 4),
      worth_bit 2 (m / 2),
      worth_bit 1 (m / 1),
    )
    (ap (λ (b : ℕ). b ∷ block_of p) (omega arith))

pub byte_at_is : (k n : ℕ) → n / 256 ^ k % 256 ≡ byte_at k n
byte_at_is zero n = omega arith
byte_at_is (suc k) n = refl

pub block_of-bits : (k n : ℕ) → block_of (bits (8 * k) n) ≡ bytes_high_first k n
unfolding bits
block_of-bits zero n = refl
block_of-bits (suc k) n =
    let more : 8 * suc k ≡ 8 + 8 * k = omega arith in
    rw (more, bits-add 8 (8 * k) n, block_of_byte (n / 2 ^ (8 * k)) (bits (8 * k) n), block_of-bits k n, pow_eight k, byte_at_is k n) refl

pub block_of_bytes : (bytes : List ℕ) → Bytes bytes → block_of (polynomial_of bytes) ≡ bytes
block_of_bytes [] h = refl
block_of_bytes (b ∷ bytes) h =
    let same : b % 256 ≡ b = omega (arith, h.0) in
    block_of_byte b (polynomial_of bytes) ∙ rw (same, block_of_bytes bytes h.1) refl

pub block_of_polynomial : (bytes : List ℕ) → All (λ byte. byte < 256) bytes → block_of (polynomial_of bytes) ≡ bytes
block_of_polynomial bytes h = block_of_bytes bytes (recursion_from_All (λ byte. byte < 256) bytes h)
