-- Sixteen streams at once: what is looked up, and what stands in the registers.
use Rattle.std.proofs.Common.{◌≡◌, ℕ, zero, suc, ◌+◌, ◌-◌, ◌*◌, ◌/◌, ◌%◌, ◌^◌, ◌<◌, ◌≤◌, Bool, List, length, take, drop, get_or, bit_xor, refl, sym, ap, ap₂, ◌∙◌, subst, inl, inr, arith, zero-add, ext_get_or, length-take-le, length-drop, get_or-drop, get_or-take}
use Rattle.std.specs.Int.Bits.{xor_self}
use Rattle.std.proofs.lemmas.List.{get_or_past}
use Rattle.std.proofs.lemmas.List.FromFn.{get_or-map-range_with_len, length-map-range_with_len}
use Rattle.std.proofs.lemmas.Bool.{cases_lt}
use Rattle.std.proofs.lemmas.Nat.{xor_block, xor_comm, pow-add, pow_pos, shr-shr}
use Rattle.gcm_core.specs.Block.{bits, polynomial_of, block_of, block_product}
use Rattle.gcm_core.specs.Streams.{stream_in, sum_below, half_byte, HasProducts}
use Rattle.gcm_core.proofs.BitsLemmas.{bits-xor}
use Rattle.gcm_core.proofs.BlockLemmas.{value, Bytes, Bytes_from, bits-value, value_below}
use Rattle.gcm_core.proofs.PowerLemmas.{block_product-sum, length-block_product}
use Rattle.gcm_core.proofs.SubkeyLemmas.{joined}
use Rattle.gcm_core.proofs.ByteLemmas.{polynomial_of-block_of, byte-sum, length-block_of, half_byte_of}

-- ---- the streams in the registers

pub length-stream_in : (registers : List ℕ) (j : ℕ) → length (stream_in registers j) ≡ 16
unfolding stream_in
length-stream_in registers j = length-map-range_with_len (λ b. get_or registers (16 * b + j) 0) 0 16

pub get_or-stream_in : (registers : List ℕ) (j b : ℕ) → b < 16 → get_or (stream_in registers j) b 0 ≡ get_or registers (16 * b + j) 0
unfolding stream_in
get_or-stream_in registers j b h = get_or-map-range_with_len (λ b. get_or registers (16 * b + j) 0) 0 16 b b 0 h (zero-add b)

-- a stream with these bytes
pub stream_is : (registers bytes : List ℕ) (j : ℕ) → length bytes ≡ 16
    → ((b : ℕ) → b < 16 → get_or registers (16 * b + j) 0 ≡ get_or bytes b 0) → stream_in registers j ≡ bytes
stream_is registers bytes j e h =
    ext_get_or 0 (stream_in registers j) bytes (length-stream_in registers j ∙ sym e)
    (λ b g. let within : b < 16 = omega (arith, length-stream_in registers j) in get_or-stream_in registers j b within ∙ h b within)

-- ---- an additive function at the half bytes

module _ (f : ℕ → ℕ) (add : (a b : ℕ) → f (bit_xor a b) ≡ bit_xor (f a) (f b)) where
  at_zero : f 0 ≡ 0
  at_zero = ap f (sym (xor_self 0)) ∙ add 0 0 ∙ xor_self (f 0)

  -- one half byte more
  joined_half : (x k : ℕ) → bit_xor (x / 2 ^ (k + 4) * 2 ^ (k + 4)) (x / 2 ^ k % 16 * 2 ^ k) ≡ x / 2 ^ k * 2 ^ k
  joined_half x k =
      let y : ℕ = x / 2 ^ k in
      let d : ℕ = y / 16 * 2 ^ 4 in
      let deeper : y / 2 ^ 4 ≡ x / 2 ^ (k + 4) = shr-shr x k 4 in
      let high : x / 2 ^ (k + 4) * 2 ^ (k + 4) ≡ d * 2 ^ k + 0 =
      ap (λ (n : ℕ). n * 2 ^ (k + 4)) (sym deeper) ∙ ap (λ (n : ℕ). y / 16 * n) (pow-add 2 k 4) ∙ regroup (y / 16) (2 ^ k) in
      let low : y % 16 * 2 ^ k ≡ y % 16 * 2 ^ k + 0 = omega arith in
      let whole : bit_xor d (y % 16) ≡ y = xor_comm d (y % 16) ∙ joined (y / 16) 4 (y % 16) (omega arith) ∙ omega arith in
      ap₂ bit_xor high low ∙ xor_block k d (y % 16) 0 0 (pow_above k) (pow_above k)
      ∙ ap (λ (n : ℕ). n * 2 ^ k + 0) whole ∙ no_more (y * 2 ^ k)
    where
      regroup : (a b : ℕ) → a * (b * 16) ≡ a * 16 * b + 0
      regroup a b = omega arith

      no_more : (n : ℕ) → n + 0 ≡ n
      no_more n = omega arith

      pow_above : (n : ℕ) → 0 < 2 ^ n
      pow_above n = pow_pos n

  -- the values at the first n half bytes make the value at the number without the others
  sum_of_halves : (x n : ℕ) → x < 2 ^ 128 → n ≤ 32
      → sum_below n (λ q. f (x / 2 ^ (4 * (31 - q)) % 16 * 2 ^ (4 * (31 - q)))) ≡ f (x / 2 ^ (4 * (32 - n)) * 2 ^ (4 * (32 - n)))
  unfolding sum_below
  sum_of_halves x zero h g =
      let none : x / 2 ^ 128 * 2 ^ 128 ≡ 0 = omega arith in
      sym (ap f none ∙ at_zero)
  sum_of_halves x (suc n) h g =
      let k : ℕ = 4 * (31 - n) in
      let wider : 4 * (32 - n) ≡ k + 4 = omega arith in
      let here : 4 * (32 - suc n) ≡ k = omega arith in
      ap (λ (y : ℕ). bit_xor y (f (x / 2 ^ k % 16 * 2 ^ k))) (sum_of_halves x n h (omega arith)
      ∙ ap (λ (m : ℕ). f (x / 2 ^ m * 2 ^ m)) wider)
      ∙ sym (add (x / 2 ^ (k + 4) * 2 ^ (k + 4)) (x / 2 ^ k % 16 * 2 ^ k)) ∙ ap f (joined_half x k)
      ∙ ap (λ (m : ℕ). f (x / 2 ^ m * 2 ^ m)) (sym here)

  pub sum_of_all_halves : (x : ℕ) → x < 2 ^ 128 → sum_below 32 (λ q. f (x / 2 ^ (4 * (31 - q)) % 16 * 2 ^ (4 * (31 - q)))) ≡ f x
  sum_of_all_halves x h = sum_of_halves x 32 h (omega arith) ∙ ap f (omega arith)

sum_below-same : (n : ℕ) (f g : ℕ → ℕ) → ((q : ℕ) → q < n → f q ≡ g q) → sum_below n f ≡ sum_below n g
unfolding sum_below
sum_below-same zero f g h = refl
sum_below-same (suc n) f g h = ap₂ bit_xor (sum_below-same n f g (λ q l. h q (omega arith))) (h n (omega arith))

-- ---- products by looking up

module _ (h : List Bool) (b : ℕ) (within : b < 16) where
  -- byte b of the product of a number's block and h
  product_byte : ℕ → ℕ
  product_byte x = get_or (block_of (block_product (bits 128 x) h)) b 0

  product_byte-xor : (x y : ℕ) → product_byte (bit_xor x y) ≡ bit_xor (product_byte x) (product_byte y)
  unfolding product_byte
  product_byte-xor x y =
      ap (λ (p : List Bool). get_or (block_of (block_product p h)) b 0) (bits-xor 128 x y)
      ∙ ap (λ (p : List Bool). get_or (block_of p) b 0) (block_product-sum (bits 128 x) (bits 128 y) h)
      ∙ byte-sum (block_product (bits 128 x) h) (block_product (bits 128 y) h) b (length-block_product (bits 128 x) h)
      (length-block_product (bits 128 y) h) within

  looked_up_is : (table halves streams : List ℕ) (j : ℕ) → j < 16 → HasProducts h table
      → Bytes (stream_in streams j)
      → ((q i : ℕ) → q < 32 → i < 16 → get_or halves (16 * q + i) 0 ≡ half_byte q (get_or streams (16 * (q / 2) + i) 0))
      → sum_below 32 (λ q. get_or table (256 * q + (16 * b + get_or halves (16 * q + j) 0)) 0)
      ≡ product_byte (value (stream_in streams j))
  unfolding product_byte
  looked_up_is table halves streams j g has are split =
      let bytes : List ℕ = stream_in streams j in
      let x : ℕ = value bytes in
      let size : length bytes ≡ 16 = length-stream_in streams j in
      let below : x < 2 ^ 128 = omega (arith, subst (λ (n : ℕ). x < 256 ^ n) size (value_below bytes are)) in
      sum_below-same 32 (λ q. get_or table (256 * q + (16 * b + get_or halves (16 * q + j) 0)) 0)
      (λ q. product_byte (x / 2 ^ (4 * (31 - q)) % 16 * 2 ^ (4 * (31 - q))))
      (λ q l.
      let m : ℕ = x / 2 ^ (4 * (31 - q)) % 16 in
      let half : get_or halves (16 * q + j) 0 ≡ m =
      split q j l g ∙ ap (half_byte q) (sym (get_or-stream_in streams j (q / 2) (omega arith))) ∙ half_byte_of bytes q size are l in
      ap (λ (n : ℕ). get_or table (256 * q + (16 * b + n)) 0) half ∙ has.product q b m l within (omega arith))
      ∙ sum_of_all_halves product_byte product_byte-xor x below

pub products_are : (h : List Bool) (table halves streams result : List ℕ) (j : ℕ) → j < 16 → HasProducts h table
    → ((i : ℕ) → get_or streams i 0 < 256)
    → ((q i : ℕ) → q < 32 → i < 16 → get_or halves (16 * q + i) 0 ≡ half_byte q (get_or streams (16 * (q / 2) + i) 0))
    → ((b : ℕ) → b < 16
    → get_or result (16 * b + j) 0 ≡ sum_below 32 (λ q. get_or table (256 * q + (16 * b + get_or halves (16 * q + j) 0)) 0))
    → polynomial_of (stream_in result j) ≡ block_product (polynomial_of (stream_in streams j)) h
unfolding product_byte
products_are h table halves streams result j g has small split found =
    let bytes : List ℕ = stream_in streams j in
    let product : List Bool = block_product (polynomial_of bytes) h in
    let are : Bytes bytes = stream_bytes streams j small in
    let spelled : bits 128 (value bytes) ≡ polynomial_of bytes =
    ap (λ (n : ℕ). bits (8 * n) (value bytes)) (sym (length-stream_in streams j)) ∙ bits-value bytes are in
    let size : length product ≡ 128 = length-block_product (polynomial_of bytes) h in
    ap polynomial_of (stream_is result (block_of product) j (length-block_of product size)
    (λ b l. found b l ∙ looked_up_is h b l table halves streams j g has are split
    ∙ ap (λ (p : List Bool). get_or (block_of (block_product p h)) b 0) spelled))
    ∙ polynomial_of-block_of product size
  where
    stream_bytes : (streams : List ℕ) (j : ℕ) → ((i : ℕ) → get_or streams i 0 < 256) → Bytes (stream_in streams j)
    stream_bytes streams j small = Bytes_from (stream_in streams j) (λ b. elim (cases_lt b 16) [
      | inl l ↦ omega (arith, get_or-stream_in streams j b l, small (16 * b + j))
      | inr past ↦ omega (arith, get_or_past (stream_in streams j) b 0 (omega (arith, length-stream_in streams j)))
    ])
