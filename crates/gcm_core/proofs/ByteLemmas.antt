-- The bytes of blocks: of a sum, and of a number.
use Rattle.std.proofs.Common.{◌≡◌, ℕ, zero, suc, ◌+◌, ◌-◌, ◌*◌, ◌/◌, ◌%◌, ◌^◌, ◌<◌, Bool, true, false, eqb, List, [], ◌∷◌, ◌++◌, length, get_or, bit_xor, refl, sym, ap, ap₂, ◌∙◌, arith}
use Rattle.std.proofs.Math.Nat.{pow-suc}
use Rattle.std.proofs.lemmas.Nat.{div-mul-add, shr-shr, xor_shr, xor_mod}
use Rattle.std.specs.Int.{bytes_high_first}
use Rattle.gcm_core.specs.Polynomial.{polynomial_sum}
use Rattle.gcm_core.specs.Block.{bits, polynomial_of, block_of, worth}
use Rattle.gcm_core.specs.Streams.{half_byte}
use Rattle.gcm_core.proofs.BitsLemmas.{bits-xor}
use Rattle.gcm_core.proofs.BlockLemmas.{bits-add, bits_low, pow_eight, byte_at_is, block_of-bits, block_of_bytes, bits-value, value, Bytes}

-- ---- the number of a polynomial

number : List Bool → ℕ
number [] = 0
number (a ∷ p) = worth (2 ^ length p) a + number p

number_below : (p : List Bool) → number p < 2 ^ length p
unfolding number
number_below [] = omega arith
number_below (true ∷ p) = omega (arith, number_below p, pow-suc 2 (length p))
number_below (false ∷ p) = omega (arith, number_below p, pow-suc 2 (length p))

bits-number : (p : List Bool) → bits (length p) (number p) ≡ p
unfolding number bits
bits-number [] = refl
bits-number (true ∷ p) =
    let k : ℕ = length p in
    let n : ℕ = number p in
    let as_one : 2 ^ k + n ≡ 1 * 2 ^ k + n = omega arith in
    let high : (1 * 2 ^ k + n) / 2 ^ k ≡ 1 = div-mul-add 1 (2 ^ k) n (number_below p) in
    ap (λ (m : ℕ). bits (suc k) m) as_one
    ∙ ap₂ (λ (m : ℕ) (t : List Bool). eqb (m % 2) 1 ∷ t) high (bits_low k k 1 n (omega arith) ∙ bits-number p)
bits-number (false ∷ p) =
    let k : ℕ = length p in
    let n : ℕ = number p in
    let as_none : 0 + n ≡ 0 * 2 ^ k + n = omega arith in
    let high : (0 * 2 ^ k + n) / 2 ^ k ≡ 0 = div-mul-add 0 (2 ^ k) n (number_below p) in
    ap (λ (m : ℕ). bits (suc k) m) as_none
    ∙ ap₂ (λ (m : ℕ) (t : List Bool). eqb (m % 2) 1 ∷ t) high (bits_low k k 0 n (omega arith) ∙ bits-number p)

bits-number_of_block : (p : List Bool) → length p ≡ 128 → bits 128 (number p) ≡ p
bits-number_of_block p e = ap (λ (k : ℕ). bits k (number p)) (sym e) ∙ bits-number p

-- ---- bytes of numbers

byte_high : (k n b : ℕ) → b < k → get_or (bytes_high_first k n) b 0 ≡ n / 2 ^ (8 * (k - 1 - b)) % 2 ^ 8
byte_high zero n b h = absurd (omega arith)
byte_high (suc k) n zero h =
    let last : 8 * (suc k - 1 - 0) ≡ 8 * k = omega arith in
    sym (byte_at_is k n) ∙ ap (λ (m : ℕ). n / m % 256) (sym (pow_eight k)) ∙ ap (λ (m : ℕ). n / 2 ^ m % 2 ^ 8) (sym last)
byte_high (suc k) n (suc b) h =
    let same : 8 * (k - 1 - b) ≡ 8 * (suc k - 1 - suc b) = omega arith in
    byte_high k n b (omega arith) ∙ ap (λ (m : ℕ). n / 2 ^ m % 2 ^ 8) same

pub polynomial_of-bytes : (k n : ℕ) → polynomial_of (bytes_high_first k n) ≡ bits (8 * k) n
unfolding bits
polynomial_of-bytes zero n = refl
polynomial_of-bytes (suc k) n =
    let m : ℕ = n / 2 ^ (8 * k) in
    let more : 8 * suc k ≡ 8 + 8 * k = omega arith in
    let byte : m % 256 ≡ n / 256 ^ k % 256 = ap (λ (j : ℕ). n / j % 256) (pow_eight k) in
    let parts : m / 256 * 2 ^ 8 + m % 256 ≡ m = omega arith in
    ap₂ (λ (x : List Bool) (y : List Bool). x ++ y)
    (ap (bits 8) (sym (byte ∙ byte_at_is k n)) ∙ sym (bits_low 8 8 (m / 256) (m % 256) (omega arith)) ∙ ap (bits 8) parts)
    (polynomial_of-bytes k n)
    ∙ sym (ap (λ (j : ℕ). bits j n) more ∙ bits-add 8 (8 * k) n)

-- a block of 16 bytes has the polynomial that it was made of
pub polynomial_of-block_of : (p : List Bool) → length p ≡ 128 → polynomial_of (block_of p) ≡ p
polynomial_of-block_of p e =
    let n : ℕ = number p in
    ap (λ (t : List Bool). polynomial_of (block_of t)) (sym (bits-number_of_block p e))
    ∙ ap polynomial_of (block_of-bits 16 n) ∙ polynomial_of-bytes 16 n ∙ bits-number_of_block p e

pub byte-bits : (n b : ℕ) → b < 16 → get_or (block_of (bits 128 n)) b 0 ≡ n / 2 ^ (8 * (15 - b)) % 2 ^ 8
byte-bits n b h = ap (λ (t : List ℕ). get_or t b 0) (block_of-bits 16 n) ∙ byte_high 16 n b h

byte-xor : (m n b : ℕ) → b < 16
    → get_or (block_of (bits 128 (bit_xor m n))) b 0 ≡ bit_xor (get_or (block_of (bits 128 m)) b 0) (get_or (block_of (bits 128 n)) b 0)
byte-xor m n b h =
    let k : ℕ = 8 * (15 - b) in
    byte-bits (bit_xor m n) b h ∙ ap (λ (j : ℕ). j % 2 ^ 8) (xor_shr m n k) ∙ xor_mod (m / 2 ^ k) (n / 2 ^ k) 8
    ∙ sym (ap₂ bit_xor (byte-bits m b h) (byte-bits n b h))

-- a byte of a sum
pub byte-sum : (p q : List Bool) (b : ℕ) → length p ≡ 128 → length q ≡ 128 → b < 16
    → get_or (block_of (polynomial_sum p q)) b 0 ≡ bit_xor (get_or (block_of p) b 0) (get_or (block_of q) b 0)
byte-sum p q b e f h =
    let m : ℕ = number p in
    let n : ℕ = number q in
    let left : bits 128 m ≡ p = bits-number_of_block p e in
    let right : bits 128 n ≡ q = bits-number_of_block q f in
    ap (λ (t : List Bool). get_or (block_of t) b 0) (sym (bits-xor 128 m n ∙ ap₂ polynomial_sum left right))
    ∙ byte-xor m n b h
    ∙ ap₂ (λ (x : List Bool) (y : List Bool). bit_xor (get_or (block_of x) b 0) (get_or (block_of y) b 0)) left right

pub length-block_of : (p : List Bool) → length p ≡ 128 → length (block_of p) ≡ 16
length-block_of p e =
    ap (λ (t : List Bool). length (block_of t)) (sym (bits-number_of_block p e)) ∙ ap length (block_of-bits 16 (number p))

-- ---- half bytes of bytes

byte_of_value : (bytes : List ℕ) (i : ℕ) → length bytes ≡ 16 → Bytes bytes → i < 16
    → get_or bytes i 0 ≡ value bytes / 2 ^ (8 * (15 - i)) % 2 ^ 8
byte_of_value bytes i e are h =
    let spelled : bits 128 (value bytes) ≡ polynomial_of bytes =
    ap (λ (n : ℕ). bits (8 * n) (value bytes)) (sym e) ∙ bits-value bytes are in
    ap (λ (t : List ℕ). get_or t i 0) (sym (block_of_bytes bytes are)) ∙ ap (λ (t : List Bool). get_or (block_of t) i 0) (sym spelled)
    ∙ byte-bits (value bytes) i h

upper_half : (q n i : ℕ) → q ≡ 2 * i → i < 16 → n / 2 ^ (8 * (15 - i)) % 2 ^ 8 / 16 ≡ n / 2 ^ (4 * (31 - q)) % 16
upper_half q n i e h =
    let y : ℕ = n / 2 ^ (8 * (15 - i)) in
    let place : 8 * (15 - i) + 4 ≡ 4 * (31 - q) = omega arith in
    let deeper : y / 2 ^ 4 ≡ n / 2 ^ (4 * (31 - q)) = shr-shr n (8 * (15 - i)) 4 ∙ ap (λ (m : ℕ). n / 2 ^ m) place in
    omega arith

lower_half : (q n i : ℕ) → q ≡ 2 * i + 1 → i < 16 → n / 2 ^ (8 * (15 - i)) % 2 ^ 8 % 16 ≡ n / 2 ^ (4 * (31 - q)) % 16
lower_half q n i e h =
    let y : ℕ = n / 2 ^ (8 * (15 - i)) in
    let place : 8 * (15 - i) ≡ 4 * (31 - q) = omega arith in
    let same : y ≡ n / 2 ^ (4 * (31 - q)) = ap (λ (m : ℕ). n / 2 ^ m) place in
    omega arith

-- half byte q of 16 bytes, from the left
pub half_byte_of : (bytes : List ℕ) (q : ℕ) → length bytes ≡ 16 → Bytes bytes → q < 32
    → half_byte q (get_or bytes (q / 2) 0) ≡ value bytes / 2 ^ (4 * (31 - q)) % 16
half_byte_of bytes q e are h =
    let n : ℕ = value bytes in
    let i : ℕ = q / 2 in
    let byte : get_or bytes i 0 ≡ n / 2 ^ (8 * (15 - i)) % 2 ^ 8 = byte_of_value bytes i e are (omega arith) in
    ap (half_byte q) byte ∙ by_parity (q % 2) refl (omega arith)
  where
    by_parity : (r : ℕ) → q % 2 ≡ r → r < 2
        → half_byte q (value bytes / 2 ^ (8 * (15 - q / 2)) % 2 ^ 8) ≡ value bytes / 2 ^ (4 * (31 - q)) % 16
    by_parity zero r g = rw r (upper_half q (value bytes) (q / 2) (omega arith) (omega arith))
    by_parity (suc zero) r g = rw r (lower_half q (value bytes) (q / 2) (omega arith) (omega arith))
    by_parity (suc (suc n)) r g = absurd (omega arith)
