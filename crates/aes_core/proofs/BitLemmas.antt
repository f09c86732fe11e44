-- A byte and its bits.
use Rattle.std.proofs.Common.{◌≡◌, ℕ, ◌+◌, ◌*◌, ◌/◌, ◌%◌, ◌^◌, ◌<◌, List, [], ◌∷◌, get_or, length, refl, sym, ap, ◌∙◌, arith}
use Rattle.std.specs.Int.{bit_at}
use Rattle.std.specs.Int.Bits.{bit_xor, xor_block, xor_shr}
use Rattle.std.proofs.lemmas.Nat.{xor_mod}
use Rattle.std.proofs.lemmas.Nat.Bits.{bit_at_xor, bit_at-lt}
use Rattle.std.specs.Simd.Lanes.{zip2}
use Rattle.aes_core.specs.Field.{times_x}
use Rattle.aes_core.specs.Sliced.{bits_of, byte_of, byte_across}
use Rattle.aes_core.proofs.EachByte.{at_each_byte}

pub byte_of-lt : (a b c d e f g h : ℕ) → a < 2 → b < 2 → c < 2 → d < 2 → e < 2 → f < 2 → g < 2 → h < 2
    → byte_of (a ∷ b ∷ c ∷ d ∷ e ∷ f ∷ g ∷ h ∷ []) < 256
unfolding byte_of
byte_of-lt a b c d e f g h pa pb pc pd pe pf pg ph = omega arith

pub bits_of_byte_of : (a b c d e f g h : ℕ) → a < 2 → b < 2 → c < 2 → d < 2 → e < 2 → f < 2 → g < 2 → h < 2
    → bits_of (byte_of (a ∷ b ∷ c ∷ d ∷ e ∷ f ∷ g ∷ h ∷ [])) ≡ a ∷ b ∷ c ∷ d ∷ e ∷ f ∷ g ∷ h ∷ []
unfolding bits_of byte_of
bits_of_byte_of a b c d e f g h pa pb pc pd pe pf pg ph =
    let n : ℕ = byte_of (a ∷ b ∷ c ∷ d ∷ e ∷ f ∷ g ∷ h ∷ []) in
    let e0 : n / 2 ^ 0 % 2 ≡ a = omega arith in
    let e1 : n / 2 ^ 1 % 2 ≡ b = omega arith in
    let e2 : n / 2 ^ 2 % 2 ≡ c = omega arith in
    let e3 : n / 2 ^ 3 % 2 ≡ d = omega arith in
    let e4 : n / 2 ^ 4 % 2 ≡ e = omega arith in
    let e5 : n / 2 ^ 5 % 2 ≡ f = omega arith in
    let e6 : n / 2 ^ 6 % 2 ≡ g = omega arith in
    let e7 : n / 2 ^ 7 % 2 ≡ h = omega arith in
    rw (e0, e1, e2, e3, e4, e5, e6, e7) refl

-- a byte from its bits
pub byte_of_bits_of : (n : ℕ) → n < 256 → byte_of (bits_of n) ≡ n
unfolding bits_of byte_of
byte_of_bits_of n p = omega arith

-- a function of the bits of a byte that is known at each byte
pub from_bytes : (of_bits : List ℕ → ℕ) (of_byte : ℕ → ℕ) → ((n : ℕ) → n < 256 → of_bits (bits_of n) ≡ of_byte n)
    → (a b c d e f g h : ℕ) → a < 2 → b < 2 → c < 2 → d < 2 → e < 2 → f < 2 → g < 2 → h < 2
    → of_bits (a ∷ b ∷ c ∷ d ∷ e ∷ f ∷ g ∷ h ∷ []) ≡ of_byte (byte_of (a ∷ b ∷ c ∷ d ∷ e ∷ f ∷ g ∷ h ∷ []))
from_bytes of_bits of_byte at_byte a b c d e f g h pa pb pc pd pe pf pg ph =
    let n : ℕ = byte_of (a ∷ b ∷ c ∷ d ∷ e ∷ f ∷ g ∷ h ∷ []) in
    ap of_bits (sym (bits_of_byte_of a b c d e f g h pa pb pc pd pe pf pg ph))
    ∙ at_byte n (byte_of-lt a b c d e f g h pa pb pc pd pe pf pg ph)

pub byte_across-lt : (j a b c d e f g h : ℕ) → byte_across j (a ∷ b ∷ c ∷ d ∷ e ∷ f ∷ g ∷ h ∷ []) < 256
unfolding byte_across
byte_across-lt j a b c d e f g h =
    byte_of-lt (bit_at a j) (bit_at b j) (bit_at c j) (bit_at d j) (bit_at e j) (bit_at f j) (bit_at g j) (bit_at h j)
    (bit_at-lt a j) (bit_at-lt b j) (bit_at-lt c j) (bit_at-lt d j) (bit_at-lt e j) (bit_at-lt f j) (bit_at-lt g j) (bit_at-lt h j)

-- ---- sums

sum_bit : (x y j : ℕ) → bit_at (bit_xor x y) j ≡ bit_xor (bit_at x j) (bit_at y j)
sum_bit x y j = ap (λ z. z % 2) (xor_shr x y j) ∙ xor_mod (x / 2 ^ j) (y / 2 ^ j) 1

-- the byte across sums is the sum of those across the parts
pub byte_across-xor : (j : ℕ) (xs ys : List ℕ) → length xs ≡ length ys
    → byte_across j (zip2 bit_xor xs ys) ≡ bit_xor (byte_across j xs) (byte_across j ys)
unfolding byte_across byte_of
byte_across-xor j [] [] e = refl
byte_across-xor j [] (y ∷ ys) e = absurd (omega arith)
byte_across-xor j (x ∷ xs) [] e = absurd (omega arith)
byte_across-xor j (x ∷ xs) (y ∷ ys) e =
    let r : ℕ = bit_at x j in
    let s : ℕ = bit_at y j in
    let m : ℕ = byte_across j xs in
    let n : ℕ = byte_across j ys in
    let rest : byte_across j (zip2 bit_xor xs ys) ≡ bit_xor m n = byte_across-xor j xs ys (omega arith) in
    let both : bit_xor (m * 2 ^ 1 + r) (n * 2 ^ 1 + s) ≡ bit_xor m n * 2 ^ 1 + bit_xor r s =
    xor_block 1 m n r s (omega (arith, bit_at-lt x j)) (omega (arith, bit_at-lt y j)) in
    let left : m * 2 ^ 1 + r ≡ r + 2 * m = omega arith in
    let right : n * 2 ^ 1 + s ≡ s + 2 * n = omega arith in
    let whole = rw (left, right) at both in
    rw (sum_bit x y j, rest, whole) (omega arith)

-- ---- x times a byte

x_times_bits : List ℕ → List ℕ
x_times_bits bits =
    let top : ℕ = get_or bits 7 0 in
    top ∷ (get_or bits 0 0 + top) % 2 ∷ get_or bits 1 0 ∷ (get_or bits 2 0 + top) % 2 ∷ (get_or bits 3 0 + top) % 2
    ∷ get_or bits 4 0 ∷ get_or bits 5 0 ∷ get_or bits 6 0 ∷ []

times_x_at : (n : ℕ) → n < 256 → byte_of (x_times_bits (bits_of n)) ≡ times_x n
unfolding byte_of bits_of times_x x_times_bits
times_x_at = at_each_byte (λ n. byte_of (x_times_bits (bits_of n))) times_x refl

pub byte_across-times_x : (j a b c d e f g h : ℕ)
    → byte_across j (h ∷ bit_xor a h ∷ b ∷ bit_xor c h ∷ bit_xor d h ∷ e ∷ f ∷ g ∷ [])
    ≡ times_x (byte_across j (a ∷ b ∷ c ∷ d ∷ e ∷ f ∷ g ∷ h ∷ []))
unfolding byte_across x_times_bits
byte_across-times_x j a b c d e f g h =
    rw (bit_at_xor a h j, bit_at_xor c h j, bit_at_xor d h j)
    (from_bytes (λ bits. byte_of (x_times_bits bits)) times_x times_x_at
    (bit_at a j) (bit_at b j) (bit_at c j) (bit_at d j) (bit_at e j) (bit_at f j) (bit_at g j) (bit_at h j)
    (bit_at-lt a j) (bit_at-lt b j) (bit_at-lt c j) (bit_at-lt d j) (bit_at-lt e j) (bit_at-lt f j) (bit_at-lt g j) (bit_at-lt h j))
