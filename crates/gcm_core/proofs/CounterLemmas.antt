-- Counter mode, block by block.
use Rattle.std.proofs.Common.{◌≡◌, ℕ, ◌+◌, ◌-◌, ◌*◌, ◌/◌, ◌%◌, ◌^◌, ◌<◌, ◌≤◌, min, List, [], ◌∷◌, ◌++◌, length, take, drop, map, set, get_or, slice_index, bit_xor, refl, sym, ap, ◌∙◌, arith, length-drop, get_or-drop, zero-add, add-zero}
use Rattle.std.proofs.Math.Seq.{take-add}
use Rattle.std.proofs.lemmas.List.{take_all, drop_all, take_at, drop_at, set_at, get_or_at, take_min, drop_min, append_assoc, append-nil, take_more, drop_more, drop-drop, length-take-le, length-take, length-map, length-append, take-append-drop}
use Rattle.std.proofs.lemmas.List.FromFn.{length-enumerate_from, fill_by_all, get_or-map-range_with_len}
use Rattle.std.proofs.lemmas.Simd.{length-zip2, put_chunk_whole, map-map}
use lib.Lanes.{zip2, put_chunk}
use Rattle.std.specs.List.{enumerate_from, range_with_len}
use Rattle.std.specs.Int.{w32, from_be_bytes, to_be_bytes, div_ceil}
use borrow.Rule.Slice.PartMut.{put_mid}
pub use Rattle.gf2_polynomial.proofs.ByteSums.{length-bytes_sum}
use Rattle.gcm_core.specs.Counter.{counted, counters_from, key_stream, counter_mode_from, counter_mode, bytes_sum}

-- ---- the counter blocks

pub counted_is : (block ys : List ℕ) (last sum count : ℕ) → length block ≡ 16
    → last ≡ from_be_bytes w32 (slice_index block 12 ∷ slice_index block 13 ∷ slice_index block 14 ∷ slice_index block 15 ∷ [])
    → sum ≡ (last + count) % 2 ^ 32 → ys ≡ to_be_bytes w32 sum → put_mid 12 4 block ys ≡ counted block count
unfolding counted
counted_is block ys last sum count size l s e =
    let after : drop 4 (drop 12 block) ≡ [] = drop_all 4 (drop 12 block) (omega (arith, length-drop 12 block)) in
    let same : last ≡ from_be_bytes w32 (drop 12 block) =
    l ∙ rw (get_or-drop 12 block 0 0, get_or-drop 12 block 1 0, get_or-drop 12 block 2 0, get_or-drop 12 block 3 0) refl in
    ap (λ (t : List ℕ). take 12 block ++ (ys ++ t)) after
    ∙ ap (λ (t : List ℕ). take 12 block ++ t) (append-nil ys ∙ e ∙ ap (to_be_bytes w32) (s ∙ ap (λ (n : ℕ). (n + count) % 2 ^ 32) same))

-- ---- bytes added

-- 16 bytes added at once
bytes_sum_zip : (a b : List ℕ) → zip2 bit_xor a b ≡ bytes_sum a b
bytes_sum_zip [] b = refl
bytes_sum_zip (x ∷ a) [] = refl
bytes_sum_zip (x ∷ a) (y ∷ b) = ap (λ (t : List ℕ). bit_xor x y ∷ t) (bytes_sum_zip a b)

pub bytes_sum_whole : (a b : List ℕ) → length a ≡ 16 → length b ≡ 16
    → put_chunk 0 a (zip2 bit_xor (take 16 a) (take 16 b)) ≡ bytes_sum a b
bytes_sum_whole a b h g =
    rw (take_all 16 a (omega arith), take_all 16 b (omega arith))
    (put_chunk_whole a (zip2 bit_xor a b) (sym (length-zip2 bit_xor a b (h ∙ sym g))) ∙ bytes_sum_zip a b)

-- ---- eight blocks

pub counters_are : (counters : List (List ℕ)) (first : List ℕ) (done i : ℕ) → i ≡ 8 → length counters ≡ 8
    → ((k : ℕ) → k < i → get_or counters k [] ≡ counted first (done + k + 1)) → counters ≡ counters_from first done 8
unfolding counters_from
counters_are counters first done i e size held =
    fill_by_all (λ k. counted first (done + k + 1)) counters 8 [] size (λ k h. held k (omega arith))

pub stream_at : (e : List ℕ → List ℕ) (streams : List (List ℕ)) (first d : List ℕ) (done i : ℕ) → i < 8
    → streams ≡ map e (counters_from first done 8) → get_or streams i d ≡ e (counted first (done + i + 1))
unfolding counters_from
stream_at e streams first d done i h s =
    ap (λ (t : List (List ℕ)). get_or t i d) (s ∙ map-map e (λ k. counted first (done + k + 1)) (range_with_len 0 8))
    ∙ get_or-map-range_with_len (λ k. e (counted first (done + k + 1))) 0 8 i i d h (zero-add i)

-- ---- the body

module _ (e : List ℕ → List ℕ) (first : List ℕ) where
  pub length-counter_mode_from : (i : ℕ) (bytes : List ℕ) → length (counter_mode_from e first i bytes) ≡ length bytes
  length-counter_mode_from i bytes = length-map (enumerate_from i bytes) (λ p. bit_xor p.1 (key_stream e first p.0))
      ∙ length-enumerate_from i bytes

  counter_mode_from-append : (i : ℕ) (a b : List ℕ)
      → counter_mode_from e first i (a ++ b) ≡ counter_mode_from e first i a ++ counter_mode_from e first (i + length a) b
  counter_mode_from-append i [] b = rw (add-zero i) refl
  counter_mode_from-append i (x ∷ a) b =
      ap (λ (t : List ℕ). bit_xor x (key_stream e first i) ∷ t)
      (counter_mode_from-append (i + 1) a b
      ∙ ap (λ (n : ℕ). counter_mode_from e first (i + 1) a ++ counter_mode_from e first n b) (omega arith))

  -- a body keeps its length while its front goes through counter mode
  pub length_half_way : (n : ℕ) (whole now : List ℕ) → now ≡ counter_mode_from e first 0 (take n whole) ++ drop n whole
      → length now ≡ length whole
  length_half_way n whole now h =
      ap length h ∙ length-append (counter_mode_from e first 0 (take n whole)) (drop n whole)
      ∙ ap (λ (k : ℕ). k + length (drop n whole)) (length-counter_mode_from 0 (take n whole))
      ∙ sym (length-append (take n whole) (drop n whole)) ∙ ap length (take-append-drop n whole)

  -- within a block
  counter_mode_block : (k j : ℕ) (bytes stream : List ℕ) → stream ≡ e (counted first (k + 1)) → length stream ≡ 16 → j + length bytes ≤ 16
      → counter_mode_from e first (16 * k + j) bytes ≡ bytes_sum bytes (drop j stream)
  unfolding key_stream
  counter_mode_block k j [] stream s size h = refl
  counter_mode_block k j (x ∷ bytes) stream s size h =
      let block : (16 * k + j) / 16 ≡ k = omega arith in
      let place : (16 * k + j) % 16 ≡ j = omega arith in
      let head : key_stream e first (16 * k + j) ≡ get_or stream j 0 = rw (block, place, ← s) refl in
      let rest : counter_mode_from e first (16 * k + j + 1) bytes ≡ bytes_sum bytes (drop (j + 1) stream) =
      ap (λ (n : ℕ). counter_mode_from e first n bytes) (omega arith) ∙ counter_mode_block k (j + 1) bytes stream s size (omega arith) in
      rw (drop_more stream j 0 (omega arith), head, rest) refl

  -- one block more of a body in place
  pub counter_mode_more : (old now new slice part stream : List ℕ) (k end : ℕ) → 16 * k < length old → end ≡ min (length old) (16 * k + 16)
      → now ≡ counter_mode_from e first 0 (take (16 * k) old) ++ drop (16 * k) old → stream ≡ e (counted first (k + 1)) → length stream ≡ 16
      → part ≡ take (end - 16 * k) (drop (16 * k) now) → slice ≡ bytes_sum part stream → new ≡ put_mid (16 * k) (end - 16 * k) now slice
      → new ≡ counter_mode_from e first 0 (take (16 * (k + 1)) old) ++ drop (16 * (k + 1)) old
  counter_mode_more old now new slice part stream k end within g n s size p q r =
      let start : ℕ = 16 * k in
      let done : List ℕ = counter_mode_from e first 0 (take start old) in
      let left : List ℕ = drop start old in
      let taken : length (take start old) ≡ start = length-take-le start old (omega arith) in
      let done_size : length done ≡ start = length-counter_mode_from 0 (take start old) ∙ taken in
      let rest : drop start now ≡ left = rw n (drop_at done left start done_size) in
      let front : take start now ≡ done = rw n (take_at done left start done_size) in
      let cut : end - start ≡ min 16 (length left) = omega (arith, length-drop start old) in
      let part_is : part ≡ take 16 left = p ∙ rw (rest, cut) (take_min 16 left) in
      let after : drop (end - start) (drop start now) ≡ drop 16 left = rw (rest, cut) (drop_min 16 left) in
      let fits : 0 + length (take 16 left) ≤ 16 = omega (arith, length-take 16 left) in
      let block : counter_mode_from e first start (take 16 left) ≡ slice =
      ap (λ (i : ℕ). counter_mode_from e first i (take 16 left)) (sym (add-zero start))
      ∙ counter_mode_block k 0 (take 16 left) stream s size fits
      ∙ sym (q ∙ ap (λ (t : List ℕ). bytes_sum t stream) part_is) in
      let up : 16 * (k + 1) ≡ start + 16 = omega arith in
      let grown : counter_mode_from e first 0 (take (start + 16) old) ≡ done ++ slice =
      ap (counter_mode_from e first 0) (take-add start 16 old) ∙ counter_mode_from-append 0 (take start old) (take 16 left)
      ∙ ap (λ (i : ℕ). done ++ counter_mode_from e first i (take 16 left)) (zero-add (length (take start old)) ∙ taken)
      ∙ ap (λ (t : List ℕ). done ++ t) block in
      let made : new ≡ done ++ (slice ++ drop 16 left) = r ∙ rw (front, after) refl in
      made ∙ sym (rw (up, grown, ← drop-drop 16 start old) (append_assoc done slice (drop 16 left)))

  pub counter_mode_all : (old now : List ℕ) (k : ℕ) → k ≡ div_ceil (length old) 16
      → now ≡ counter_mode_from e first 0 (take (16 * k) old) ++ drop (16 * k) old → now ≡ counter_mode e first old
  unfolding counter_mode
  counter_mode_all old now k h n = n ∙ rw (take_all (16 * k) old (omega arith), drop_all (16 * k) old (omega arith), append-nil) refl
