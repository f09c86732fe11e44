-- GHASH sixteen blocks at a time.
use Rattle.std.proofs.Common.{◌≡◌, ℕ, zero, suc, ◌+◌, ◌*◌, ◌/◌, ◌<◌, ◌≤◌, Bool, List, [], ◌∷◌, ◌++◌, length, take, drop, get_or, bit_xor, refl, sym, ap, ap₂, ◌∙◌, arith, add-suc, length-append, length-drop, length-take-le, get_or-take, get_or-drop, get_or-append-add, ext_get_or, zero-add}
use Rattle.gcm_core.specs.Polynomial.{polynomial_sum}
use Rattle.gcm_core.specs.Block.{bits, polynomial_of, block_product}
use Rattle.gcm_core.specs.Hash.{block_at, hash_of_blocks, ghash, Hashes, times_power}
use Rattle.gcm_core.specs.Streams.{stream_in}
use Rattle.gcm_core.proofs.PolynomialLemmas.{sum_assoc, sum_swap, sum_zeros, zeros_sum}
use Rattle.gcm_core.proofs.BitsLemmas.{length-bits, bits-xor, bits_zero}
use Rattle.gcm_core.proofs.HashLemmas.{hash_of_blocks-append}
use Rattle.gcm_core.proofs.PowerLemmas.{block_product-sum, length-block_product, block_product_zero}
use Rattle.gcm_core.proofs.ProductLemmas.{zeros, product_power}
use Rattle.gcm_core.proofs.StreamLemmas.{length-stream_in, get_or-stream_in, stream_is}

-- ---- the hash that goes on from y with n further blocks

pub run : List Bool → List Bool → (ℕ → List Bool) → ℕ → List Bool
run h y f zero = y
run h y f (suc n) = block_product (polynomial_sum (run h y f n) (f n)) h

module _ (h : List Bool) where
  run-same : (y : List Bool) (f g : ℕ → List Bool) (n : ℕ) → ((j : ℕ) → j < n → f j ≡ g j) → run h y f n ≡ run h y g n
  unfolding run
  run-same y f g zero e = refl
  run-same y f g (suc n) e =
      ap₂ (λ (p : List Bool) (q : List Bool). block_product (polynomial_sum p q) h) (run-same y f g n (λ j l. e j (omega arith)))
      (e n (omega arith))

  run-sum : (y z : List Bool) (f g : ℕ → List Bool) (n : ℕ)
      → run h (polynomial_sum y z) (λ j. polynomial_sum (f j) (g j)) n ≡ polynomial_sum (run h y f n) (run h z g n)
  unfolding run
  run-sum y z f g zero = refl
  run-sum y z f g (suc n) =
      ap (λ (p : List Bool). block_product (polynomial_sum p (polynomial_sum (f n) (g n))) h) (run-sum y z f g n)
      ∙ ap (λ (p : List Bool). block_product p h) (sum_swap (run h y f n) (run h z g n) (f n) (g n))
      ∙ block_product-sum (polynomial_sum (run h y f n) (f n)) (polynomial_sum (run h z g n) (g n)) h

  times_power-sum : (k : ℕ) (p q : List Bool)
      → times_power h k (polynomial_sum p q) ≡ polynomial_sum (times_power h k p) (times_power h k q)
  unfolding times_power
  times_power-sum zero p q = refl
  times_power-sum (suc k) p q =
      ap (λ (t : List Bool). block_product t h) (times_power-sum k p q) ∙ block_product-sum (times_power h k p) (times_power h k q) h

  times_power-product : (k : ℕ) (p : List Bool) → times_power h k (block_product p h) ≡ block_product (times_power h k p) h
  unfolding times_power
  times_power-product zero p = refl
  times_power-product (suc k) p = ap (λ (t : List Bool). block_product t h) (times_power-product k p)

  times_power_zeros : (k : ℕ) → times_power h k zeros ≡ zeros
  unfolding times_power
  times_power_zeros zero = refl
  times_power_zeros (suc k) =
      ap (λ (t : List Bool). block_product t h) (times_power_zeros k ∙ sym (bits_zero 128)) ∙ block_product_zero h ∙ bits_zero 128

  run-times : (k : ℕ) (y : List Bool) (f : ℕ → List Bool) (n : ℕ)
      → run h (times_power h k y) (λ j. times_power h k (f j)) n ≡ times_power h k (run h y f n)
  unfolding run
  run-times k y f zero = refl
  run-times k y f (suc n) =
      ap (λ (p : List Bool). block_product (polynomial_sum p (times_power h k (f n))) h) (run-times k y f n)
      ∙ ap (λ (p : List Bool). block_product p h) (sym (times_power-sum k (run h y f n) (f n)))
      ∙ sym (times_power-product k (polynomial_sum (run h y f n) (f n)))

  -- what the start makes, and what the blocks make
  run_apart : (y : List Bool) (f : ℕ → List Bool) (n : ℕ) → length y ≡ 128
      → run h y f n ≡ polynomial_sum (times_power h n y) (run h zeros f n)
  unfolding run times_power
  run_apart y f zero e = sym (sum_zeros y 128 e)
  run_apart y f (suc n) e =
      ap (λ (p : List Bool). block_product (polynomial_sum p (f n)) h) (run_apart y f n e)
      ∙ ap (λ (p : List Bool). block_product p h) (sum_assoc (times_power h n y) (run h zeros f n) (f n))
      ∙ block_product-sum (times_power h n y) (polynomial_sum (run h zeros f n) (f n)) h

  length-run : (f : ℕ → List Bool) (n : ℕ) → length (run h zeros f n) ≡ 128
  unfolding run
  length-run f zero = refl
  length-run f (suc n) = length-block_product (polynomial_sum (run h zeros f n) (f n)) h

  -- the streams, each multiplied by h ^ 16, and sixteen blocks
  run_group : (f x : ℕ → List Bool)
      → run h zeros (λ j. polynomial_sum (times_power h 16 (f j)) (x j)) 16 ≡ run h (run h zeros f 16) x 16
  run_group f x =
      let none : zeros ≡ polynomial_sum (times_power h 16 zeros) zeros =
      sym (sum_zeros (times_power h 16 zeros) 128 (ap length (times_power_zeros 16)) ∙ times_power_zeros 16) in
      ap (λ (y : List Bool). run h y (λ j. polynomial_sum (times_power h 16 (f j)) (x j)) 16) none
      ∙ run-sum (times_power h 16 zeros) zeros (λ j. times_power h 16 (f j)) x 16
      ∙ ap (λ (p : List Bool). polynomial_sum p (run h zeros x 16)) (run-times 16 zeros f 16)
      ∙ sym (run_apart (run h zeros f 16) x 16 (length-run f 16))

  -- the start is added to the first block
  run_first : (y : List Bool) (f x : ℕ → List Bool) (n : ℕ) → f 0 ≡ polynomial_sum y (x 0) → length (f 0) ≡ 128
      → ((j : ℕ) → 0 < j → j < suc n → f j ≡ x j) → run h zeros f (suc n) ≡ run h y x (suc n)
  unfolding run
  run_first y f x zero e size same =
      ap (λ (p : List Bool). block_product p h) (zeros_sum (f 0) 128 size ∙ e)
  run_first y f x (suc n) e size same =
      ap₂ (λ (p : List Bool) (q : List Bool). block_product (polynomial_sum p q) h)
      (run_first y f x n e size (λ j a l. same j a (omega arith))) (same (suc n) (omega arith) (omega arith))

  hash_is_run : (bytes : List ℕ) (m n : ℕ) → hash_of_blocks h bytes (m + n) ≡ run h (hash_of_blocks h bytes m) (λ j. block_at bytes (m + j)) n
  unfolding run hash_of_blocks
  hash_is_run bytes m zero = ap (hash_of_blocks h bytes) (none m)
    where
      none : (m : ℕ) → m + 0 ≡ m
      none m = omega arith
  hash_is_run bytes m (suc n) =
      ap (hash_of_blocks h bytes) (add-suc m n)
      ∙ ap (λ (p : List Bool). block_product (polynomial_sum p (block_at bytes (m + n))) h) (hash_is_run bytes m n)

-- ---- bytes added

sum-append : (p q r s : List Bool) → length p ≡ length r
    → polynomial_sum (p ++ q) (r ++ s) ≡ polynomial_sum p r ++ polynomial_sum q s
sum-append [] q [] s e = refl
sum-append [] q (c ∷ r) s e = absurd (omega arith)
sum-append (a ∷ p) q [] s e = absurd (omega arith)
sum-append (a ∷ p) q (c ∷ r) s e = ap₂ (λ x t. x ∷ t) refl (sum-append p q r s (omega arith))

pub polynomial_of-sum : (a b c : List ℕ) → length a ≡ length c → length b ≡ length c
    → ((i : ℕ) → i < length c → get_or c i 0 ≡ bit_xor (get_or a i 0) (get_or b i 0))
    → polynomial_of c ≡ polynomial_sum (polynomial_of a) (polynomial_of b)
polynomial_of-sum [] [] [] e f h = refl
polynomial_of-sum [] [] (z ∷ c) e f h = absurd (omega arith)
polynomial_of-sum [] (y ∷ b) c e f h = absurd (omega arith)
polynomial_of-sum (x ∷ a) [] c e f h = absurd (omega arith)
polynomial_of-sum (x ∷ a) (y ∷ b) [] e f h = absurd (omega arith)
polynomial_of-sum (x ∷ a) (y ∷ b) (z ∷ c) e f h =
    ap₂ (λ (p : List Bool) (q : List Bool). p ++ q) (ap (bits 8) (h 0 (omega arith)) ∙ bits-xor 8 x y)
    (polynomial_of-sum a b c (omega arith) (omega arith) (λ i l. h (suc i) (omega arith)))
    ∙ sym (sum-append (bits 8 x) (polynomial_of a) (bits 8 y) (polynomial_of b) (length-bits 8 x ∙ sym (length-bits 8 y)))

pub length-polynomial_of : (bytes : List ℕ) → length (polynomial_of bytes) ≡ 8 * length bytes
length-polynomial_of [] = refl
length-polynomial_of (x ∷ bytes) =
    omega (arith, length-append (bits 8 x) (polynomial_of bytes), length-bits 8 x, length-polynomial_of bytes)

-- the streams of the sum of two arrays
sum_of_streams : (left right sums : List ℕ) (j : ℕ) → j < 16
    → ((k : ℕ) → k < 256 → get_or sums k 0 ≡ bit_xor (get_or left k 0) (get_or right k 0))
    → polynomial_of (stream_in sums j) ≡ polynomial_sum (polynomial_of (stream_in left j)) (polynomial_of (stream_in right j))
sum_of_streams left right sums j h are =
    polynomial_of-sum (stream_in left j) (stream_in right j) (stream_in sums j)
    (length-stream_in left j ∙ sym (length-stream_in sums j)) (length-stream_in right j ∙ sym (length-stream_in sums j))
    (λ i l.
    let within : i < 16 = omega (arith, length-stream_in sums j) in
    get_or-stream_in sums j i within ∙ are (16 * i + j) (omega arith)
    ∙ sym (ap₂ bit_xor (get_or-stream_in left j i within) (get_or-stream_in right j i within)))

-- ---- the groups of a text

-- the text so far is whole blocks, and the streams make its hash and that of n groups
pub Groups : List Bool → List ℕ → ℕ → ℕ → List ℕ → Type 0
Groups h bytes hash n streams = (before : List ℕ) → Hashes h before hash
    → run h zeros (λ j. polynomial_of (stream_in streams j)) 16 ≡ hash_of_blocks h (before ++ bytes) (length before / 16 + 16 * n)

-- a byte of a block behind m blocks
byte_behind : (before bytes : List ℕ) (m r b : ℕ) → length before ≡ 16 * m → b < 16
    → get_or (take 16 (drop (16 * (m + r)) (before ++ bytes))) b 0 ≡ get_or bytes (16 * r + b) 0
byte_behind before bytes m r b e h =
    let place : 16 * (m + r) + b ≡ length before + (16 * r + b) = omega arith in
    get_or-take 16 (drop (16 * (m + r)) (before ++ bytes)) b 0 h ∙ get_or-drop (16 * (m + r)) (before ++ bytes) b 0
    ∙ ap (λ (n : ℕ). get_or (before ++ bytes) n 0) place ∙ get_or-append-add before bytes (16 * r + b) 0

length_behind : (before bytes : List ℕ) (m r : ℕ) → length before ≡ 16 * m → 16 * r + 16 ≤ length bytes
    → length (take 16 (drop (16 * (m + r)) (before ++ bytes))) ≡ 16
length_behind before bytes m r e h =
    length-take-le 16 (drop (16 * (m + r)) (before ++ bytes))
    (omega (arith, length-drop (16 * (m + r)) (before ++ bytes), length-append before bytes))

-- the streams of a group of blocks
group_at : (before bytes registers : List ℕ) (m n j : ℕ) → length before ≡ 16 * m → 256 * n + 256 ≤ length bytes → j < 16
    → ((b i : ℕ) → b < 16 → i < 16 → get_or registers (16 * b + i) 0 ≡ get_or bytes (256 * n + (16 * i + b)) 0)
    → polynomial_of (stream_in registers j) ≡ block_at (before ++ bytes) (m + 16 * n + j)
group_at before bytes registers m n j e g h turned =
    let block : ℕ = m + (16 * n + j) in
    let same : block ≡ m + 16 * n + j = omega arith in
    ap polynomial_of (stream_is registers (take 16 (drop (16 * block) (before ++ bytes))) j
    (length_behind before bytes m (16 * n + j) e (omega arith))
    (λ b l.
    let place : 256 * n + (16 * j + b) ≡ 16 * (16 * n + j) + b = omega arith in
    turned b j l h ∙ ap (λ (k : ℕ). get_or bytes k 0) place ∙ sym (byte_behind before bytes m (16 * n + j) b e l)))
    ∙ ap (block_at (before ++ bytes)) same

pub groups_first : (h : List Bool) (bytes streams : List ℕ) (hash : ℕ) → 256 ≤ length bytes
    → polynomial_of (stream_in streams 0) ≡ polynomial_sum (bits 128 hash) (block_at bytes 0)
    → ((j : ℕ) → 0 < j → j < 16 → polynomial_of (stream_in streams j) ≡ block_at bytes j) → Groups h bytes hash 1 streams
unfolding Groups hash_of_blocks
groups_first h bytes streams hash g zeroth others before held =
    let m : ℕ = length before / 16 in
    let e : length before ≡ 16 * m = omega (arith, held.whole) in
    let x : ℕ → List Bool = λ j. block_at (before ++ bytes) (m + j) in
    let start : hash_of_blocks h (before ++ bytes) m ≡ bits 128 hash =
    hash_of_blocks-append h before bytes m (omega arith) ∙ sym held.hash in
    let block : (j : ℕ) → j < 16 → block_at bytes j ≡ x j = λ j l. ap polynomial_of (same_block before bytes m j e (omega arith)) in
    let size : length (polynomial_of (stream_in streams 0)) ≡ 128 =
    omega (arith, length-polynomial_of (stream_in streams 0), length-stream_in streams 0) in
    run_first h (bits 128 hash) (λ j. polynomial_of (stream_in streams j)) x 15
    (zeroth ∙ ap (polynomial_sum (bits 128 hash)) (block 0 (omega arith))) size (λ j a l. others j a l ∙ block j l)
    ∙ ap (λ (y : List Bool). run h y x 16) (sym start) ∙ sym (hash_is_run h (before ++ bytes) m 16)
  where
    same_block : (before bytes : List ℕ) (m j : ℕ) → length before ≡ 16 * m → 16 * j + 16 ≤ length bytes
        → take 16 (drop (16 * j) bytes) ≡ take 16 (drop (16 * (m + j)) (before ++ bytes))
    same_block before bytes m j e l =
        ext_get_or 0 (take 16 (drop (16 * j) bytes)) (take 16 (drop (16 * (m + j)) (before ++ bytes)))
        (length-take-le 16 (drop (16 * j) bytes) (omega (arith, length-drop (16 * j) bytes)) ∙ sym (length_behind before bytes m j e l))
        (λ b k.
        let within : b < 16 = omega (arith, length-take-le 16 (drop (16 * j) bytes) (omega (arith, length-drop (16 * j) bytes))) in
        get_or-take 16 (drop (16 * j) bytes) b 0 within ∙ get_or-drop (16 * j) bytes b 0 ∙ sym (byte_behind before bytes m j b e within))

pub groups_more : (h power : List Bool) (bytes streams products blocks next : List ℕ) (hash n : ℕ) → length h ≡ 128
    → power ≡ times_power h 15 h → 256 * n + 256 ≤ length bytes
    → ((j : ℕ) → j < 16 → polynomial_of (stream_in products j) ≡ block_product (polynomial_of (stream_in streams j)) power)
    → ((b i : ℕ) → b < 16 → i < 16 → get_or blocks (16 * b + i) 0 ≡ get_or bytes (256 * n + (16 * i + b)) 0)
    → ((k : ℕ) → k < 256 → get_or next k 0 ≡ bit_xor (get_or products k 0) (get_or blocks k 0))
    → Groups h bytes hash n streams → Groups h bytes hash (n + 1) next
unfolding Groups
groups_more h power bytes streams products blocks next hash n size p g multiplied turned added held before is =
    let m : ℕ = length before / 16 in
    let e : length before ≡ 16 * m = omega (arith, is.whole) in
    let f : ℕ → List Bool = λ j. polynomial_of (stream_in streams j) in
    let x : ℕ → List Bool = λ j. block_at (before ++ bytes) (m + 16 * n + j) in
    let up : m + 16 * n + 16 ≡ m + 16 * (n + 1) = omega arith in
    run-same h zeros (λ j. polynomial_of (stream_in next j)) (λ j. polynomial_sum (times_power h 16 (f j)) (x j)) 16
    (λ j l. sum_of_streams products blocks next j l added
    ∙ ap₂ polynomial_sum (multiplied j l ∙ ap (block_product (f j)) p ∙ product_power 15 (f j) h size)
    (group_at before bytes blocks m n j e g l turned))
    ∙ run_group h f x ∙ ap (λ (y : List Bool). run h y x 16) (held before is)
    ∙ sym (hash_is_run h (before ++ bytes) (m + 16 * n) 16) ∙ ap (hash_of_blocks h (before ++ bytes)) up

-- the streams as blocks give the hash
pub groups_all : (h : List Bool) (bytes streams rows : List ℕ) (hash n number : ℕ) → length bytes ≡ 256 * n → length rows ≡ 256
    → ((b i : ℕ) → b < 16 → i < 16 → get_or rows (16 * b + i) 0 ≡ get_or streams (16 * i + b) 0)
    → bits 128 number ≡ ghash h rows → Groups h bytes hash n streams
    → (before : List ℕ) → Hashes h before hash → Hashes h (before ++ bytes) number
unfolding Groups hash_of_blocks
groups_all h bytes streams rows hash n number e size turned is held before start =
    let m : ℕ = length before / 16 in
    let count : length rows / 16 ≡ 16 = omega arith in
    let blocks : m + 16 * n ≡ length (before ++ bytes) / 16 = omega (arith, length-append before bytes, start.whole) in
    record {
      whole = omega (arith, length-append before bytes, start.whole);
      hash = is ∙ ap (hash_of_blocks h rows) count ∙ hash_is_run h rows 0 16
          ∙ ap (λ (y : List Bool). run h y (λ j. block_at rows (0 + j)) 16) (bits_zero 128)
          ∙ run-same h zeros (λ j. block_at rows (0 + j)) (λ j. polynomial_of (stream_in streams j)) 16 (λ j l.
          ap (block_at rows) (zero-add j) ∙ sym (ap polynomial_of (stream_is streams (take 16 (drop (16 * j) rows)) j
          (length-take-le 16 (drop (16 * j) rows) (omega (arith, length-drop (16 * j) rows)))
          (λ b g. sym (turned j b l g) ∙ sym (get_or-take 16 (drop (16 * j) rows) b 0 g ∙ get_or-drop (16 * j) rows b 0)))))
          ∙ held before start ∙ ap (hash_of_blocks h (before ++ bytes)) blocks;
    }
