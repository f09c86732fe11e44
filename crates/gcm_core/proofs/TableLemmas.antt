-- The table of a block's products with half bytes.
use Rattle.std.proofs.Common.{◌≡◌, ℕ, suc, ◌+◌, ◌-◌, ◌*◌, ◌/◌, ◌^◌, ◌<◌, Bool, true, false, List, [], ◌∷◌, ◌++◌, length, get_or, replicate, sym, ap, ap₂, ◌∙◌, inl, inr, arith}
use Rattle.std.proofs.lemmas.Bool.{cases_lt}
use Rattle.std.proofs.lemmas.Nat.{shl-shr, shr-shr}
use Rattle.std.proofs.lemmas.Simd.{get_or-put_chunk_below, get_or-put_chunk_at}
use lib.Lanes.{put_chunk}
use Rattle.gcm_core.specs.Polynomial.{polynomial_sum}
use Rattle.gcm_core.specs.Block.{bits, block_of, block_product}
use Rattle.gcm_core.specs.Tables.{times_power_of_x, HasMultiples}
use Rattle.gcm_core.specs.Streams.{half_byte_block}
use Rattle.gcm_core.proofs.PolynomialLemmas.{sum_zeros}
use Rattle.gcm_core.proofs.BitsLemmas.{bits_zero}
use Rattle.gcm_core.proofs.BlockLemmas.{bits-add, bits_low}
use Rattle.gcm_core.proofs.PowerLemmas.{length-block_product}
use Rattle.gcm_core.proofs.ProductLemmas.{times_x, product_zeros, product_one, product-append, product_shifted, product_times_power_of_x, times_power_of_x_zeros}

-- zero coefficients after a left factor change nothing
product_filled : (p h : List Bool) (k : ℕ) → length h ≡ 128 → block_product (p ++ replicate k false) h ≡ block_product p h
product_filled p h k e =
    product-append p (replicate k false) h e
    ∙ ap (λ (t : List Bool). polynomial_sum (block_product p h) (times_power_of_x (length p) t)) (product_zeros k h e)
    ∙ ap (polynomial_sum (block_product p h)) (times_power_of_x_zeros (length p))
    ∙ sum_zeros (block_product p h) 128 (length-block_product p h)

-- the bits of a half byte with others around it, which are 0
bits_around : (a k m : ℕ) → m < 16 → bits (a + (4 + k)) (m * 2 ^ k) ≡ replicate a false ++ (bits 4 m ++ replicate k false)
bits_around a k m h =
    let n : ℕ = m * 2 ^ k in
    let m_is : n / 2 ^ k ≡ m = shl-shr m k in
    let none : n / 2 ^ (4 + k) ≡ 0 =
    ap (λ (j : ℕ). n / 2 ^ j) (turn k) ∙ sym (shr-shr n k 4) ∙ ap (λ (j : ℕ). j / 2 ^ 4) m_is ∙ omega arith in
    let low : bits k n ≡ replicate k false = ap (bits k) (no_more n) ∙ bits_low k k m 0 (omega arith) ∙ bits_zero k in
    bits-add a (4 + k) n
    ∙ ap₂ (λ (x : List Bool) (y : List Bool). x ++ y) (ap (bits a) none ∙ bits_zero a)
    (bits-add 4 k n ∙ ap₂ (λ (x : List Bool) (y : List Bool). x ++ y) (ap (bits 4) m_is) low)
  where
    turn : (k : ℕ) → 4 + k ≡ k + 4
    turn k = omega arith

    no_more : (n : ℕ) → n ≡ n + 0
    no_more n = omega arith

pub product_half_byte : (q m : ℕ) (h : List Bool) → length h ≡ 128 → q < 32 → m < 16
    → block_product (half_byte_block q m) h ≡ block_product (bits 4 m) (times_power_of_x (4 * q) h)
product_half_byte q m h e g l =
    let k : ℕ = 4 * (31 - q) in
    let whole : 128 ≡ 4 * q + (4 + k) = omega arith in
    ap (λ (n : ℕ). block_product (bits n (m * 2 ^ k)) h) whole
    ∙ ap (λ (p : List Bool). block_product p h) (bits_around (4 * q) k m l)
    ∙ product_shifted (4 * q) (bits 4 m ++ replicate k false) h e
    ∙ ap (times_power_of_x (4 * q)) (product_filled (bits 4 m) h k e)
    ∙ sym (product_times_power_of_x (4 * q) (bits 4 m) h e)

-- the entry for the last of four bits is x ^ 3 times the block
pub power_more : (h power : List Bool) (entries : List ℕ) (half next : ℕ) → length power ≡ 128
    → power ≡ times_power_of_x (4 * half) h → HasMultiples power entries → bits 128 next ≡ times_x (bits 128 (get_or entries 1 0))
    → bits 128 next ≡ times_power_of_x (4 * (half + 1)) h
unfolding times_power_of_x bits
power_more h power entries half next e p has n =
    let third : bits 128 (get_or entries 1 0) ≡ times_power_of_x 3 power =
    has.multiple 1 (omega arith) ∙ product_shifted 3 (true ∷ []) power e ∙ ap (times_power_of_x 3) (product_one 0 power e) in
    let more : suc (suc (suc (suc (4 * half)))) ≡ 4 * (half + 1) = omega arith in
    n ∙ ap (λ t. times_x t) third ∙ ap (times_power_of_x 4) p ∙ ap (λ (k : ℕ). times_power_of_x k h) more

abbrev pub HasRows : List Bool → List ℕ → ℕ → Type 0
HasRows h table n = (q b m : ℕ) → q < n → b < 16 → m < 16
    → get_or table (256 * q + (16 * b + m)) 0 ≡ get_or (block_of (block_product (half_byte_block q m) h)) b 0

-- the rows for one half byte more
pub rows_more : (h power : List Bool) (entries rows turned table : List ℕ) (half : ℕ) → length h ≡ 128 → half < 32
    → power ≡ times_power_of_x (4 * half) h → HasMultiples power entries
    → ((m b : ℕ) → m < 16 → b < 16 → get_or rows (16 * m + b) 0 ≡ get_or (block_of (bits 128 (get_or entries m 0))) b 0)
    → ((i j : ℕ) → i < 16 → j < 16 → get_or turned (16 * i + j) 0 ≡ get_or rows (16 * j + i) 0)
    → length table ≡ 8192 → length turned ≡ 256 → HasRows h table half → HasRows h (put_chunk (256 * half) table turned) (half + 1)
rows_more h power entries rows turned table half e within p has spelled swapped size len held q b m l g f = elim (cases_lt q half) [
  | inl below ↦ get_or-put_chunk_below (256 * half) table turned (256 * q + (16 * b + m)) 0 (omega arith) ∙ held q b m below g f
  | inr above ↦
      let same : half ≡ q = omega arith in
      let place : 256 * q + (16 * b + m) ≡ 256 * half + (16 * b + m) = omega arith in
      ap (λ (n : ℕ). get_or (put_chunk (256 * half) table turned) n 0) place
      ∙ get_or-put_chunk_at (256 * half) table turned (16 * b + m) 0 (omega arith) (omega arith)
      ∙ swapped b m g f ∙ spelled m b f g
      ∙ ap (λ (t : List Bool). get_or (block_of t) b 0) (has.multiple m f ∙ ap (block_product (bits 4 m)) p
      ∙ sym (product_half_byte half m h e within f))
      ∙ ap (λ (n : ℕ). get_or (block_of (block_product (half_byte_block n m) h)) b 0) same
]
