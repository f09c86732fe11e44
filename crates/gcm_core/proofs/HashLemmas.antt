-- GHASH, block by block.
use Rattle.std.proofs.Common.{◌≡◌, ℕ, zero, suc, ◌+◌, ◌-◌, ◌*◌, ◌/◌, ◌%◌, ◌<◌, ◌≤◌, min, Bool, List, ◌++◌, length, take, drop, replicate, get_or, bit_xor, refl, sym, ap, ◌∙◌, inl, inr, arith, length-append, length-drop}
use Rattle.std.proofs.Math.Seq.{take-add}
use Rattle.std.proofs.lemmas.List.{take-append-le, take-append-drop, drop-append-le, take_all, drop_at, append-nil, append_assoc, drop-replicate, length-replicate, length-take-le}
use Rattle.std.proofs.lemmas.Bool.{cases_lt}
use Rattle.std.specs.Int.{w128, from_be_bytes, div_ceil}
use borrow.Rule.Slice.PartMut.{post_of}
use Rattle.gcm_core.specs.Block.{bits, polynomial_of, block_product}
use Rattle.gcm_core.specs.Hash.{hash_of_blocks, filled, Hashes}
use Rattle.gcm_core.proofs.BitsLemmas.{bits-xor}
use Rattle.gcm_core.proofs.BlockLemmas.{Bytes_from, Bytes-append, Bytes_zeros, bits-from_be_bytes}

-- what filled_block computes
pub filled_block_bits : (bytes ys : List ℕ) (number : ℕ) → length bytes ≤ 16 → ((i : ℕ) → get_or bytes i 0 < 256) → ys ≡ bytes
    → number ≡ from_be_bytes w128 (ys ++ post_of 0 (length bytes) (replicate 16 0))
    → bits 128 number ≡ polynomial_of (bytes ++ replicate (16 - length bytes) 0)
filled_block_bits bytes ys number h b e n =
    let zeros : List ℕ = replicate (16 - length bytes) 0 in
    let block : ys ++ post_of 0 (length bytes) (replicate 16 0) ≡ bytes ++ zeros =
    rw e (ap (λ (z : List ℕ). bytes ++ z) (drop-replicate (length bytes) 16 0)) in
    let whole : length (bytes ++ zeros) ≡ 16 = omega (arith, length-append bytes zeros, length-replicate {A = ℕ} (16 - length bytes) 0) in
    ap (bits 128) n ∙ ap (λ (x : List ℕ). bits 128 (from_be_bytes w128 x)) block
    ∙ bits-from_be_bytes (bytes ++ zeros) whole (Bytes-append bytes zeros (Bytes_from bytes b) (Bytes_zeros (16 - length bytes)))

-- the hash reads only the blocks that it counts
pub hash_of_blocks-append : (h : List Bool) (p x : List ℕ) (n : ℕ) → 16 * n ≤ length p → hash_of_blocks h (p ++ x) n ≡ hash_of_blocks h p n
unfolding hash_of_blocks
hash_of_blocks-append h p x zero g = refl
hash_of_blocks-append h p x (suc n) g =
    let fits : 16 ≤ length (drop (16 * n) p) = omega (arith, length-drop (16 * n) p) in
    let block : take 16 (drop (16 * n) (p ++ x)) ≡ take 16 (drop (16 * n) p) =
    rw (drop-append-le (16 * n) p x (omega arith)) (take-append-le 16 (drop (16 * n) p) x fits) in
    rw (block, hash_of_blocks-append h p x n (omega arith)) refl

-- the hash after one block more
Hashes_more : (h : List Bool) (before block : List ℕ) (number b next : ℕ) → Hashes h before number → length block ≡ 16
    → bits 128 b ≡ polynomial_of block → bits 128 next ≡ block_product (bits 128 (bit_xor number b)) h → Hashes h (before ++ block) next
unfolding hash_of_blocks
Hashes_more h before block number b next held size is after =
    let n : ℕ = length before / 16 in
    let front : 16 * n ≡ length before = omega (arith, held.whole) in
    let count : length (before ++ block) / 16 ≡ suc n = omega (arith, length-append before block) in
    let last : take 16 (drop (16 * n) (before ++ block)) ≡ block =
    rw (drop_at before block (16 * n) (sym front)) (take_all 16 block (omega arith)) in
    record {
      whole = omega (arith, length-append before block, held.whole);
      hash = after ∙ rw (bits-xor 128 number b, is, held.hash, count, last, hash_of_blocks-append h before block n (omega arith)) refl;
    }

-- the next block of filled bytes is the next bytes, filled
take_filled : (bytes : List ℕ) (k e : ℕ) → 16 * k < length bytes → e ≡ min (length bytes) (16 * k + 16)
    → take 16 (drop (16 * k) (filled bytes)) ≡ take (e - 16 * k) (drop (16 * k) bytes) ++ replicate (16 - (e - 16 * k)) 0
take_filled bytes k e h g =
    let rest = drop (16 * k) bytes in
    let m : length rest ≡ length bytes - 16 * k = length-drop (16 * k) bytes in
    let z : ℕ = (16 - length bytes % 16) % 16 in
    let cut : drop (16 * k) (filled bytes) ≡ rest ++ replicate z 0 = drop-append-le (16 * k) bytes (replicate z 0) (omega arith) in
    elim (cases_lt (length rest) 16) [
      | inl short ↦
          let size : e - 16 * k ≡ length rest = omega arith in
          let zeros : z ≡ 16 - length rest = omega arith in
          rw (cut, size, zeros, take_all (length rest) rest (omega arith))
          (take_all 16 (rest ++ replicate (16 - length rest) 0) (omega (
            arith,
            length-append rest (replicate (16 - length rest) 0),
            length-replicate {A = ℕ} (16 - length rest) 0,
          )))
      | inr long ↦
          let size : e - 16 * k ≡ 16 = omega arith in
          rw (cut, size) (take-append-le 16 rest (replicate z 0) long ∙ sym (append-nil (take 16 rest)))
    ]

-- one step of absorb
pub Hashes_block : (h : List Bool) (before bytes slice : List ℕ) (k e number b next : ℕ) → 16 * k < length bytes
    → e ≡ min (length bytes) (16 * k + 16)
    → slice ≡ take (e - 16 * k) (drop (16 * k) bytes) → Hashes h (before ++ take (16 * k) (filled bytes)) number
    → bits 128 b ≡ polynomial_of (slice ++ replicate (16 - length slice) 0) → bits 128 next ≡ block_product (bits 128 (bit_xor number b)) h
    → Hashes h (before ++ take (16 * (k + 1)) (filled bytes)) next
Hashes_block h before bytes slice k e number b next within g s held is after =
    let size : length slice ≡ e - 16 * k =
    ap length s ∙ length-take-le (e - 16 * k) (drop (16 * k) bytes) (omega (arith, length-drop (16 * k) bytes)) in
    let block : take 16 (drop (16 * k) (filled bytes)) ≡ slice ++ replicate (16 - length slice) 0 =
    take_filled bytes k e within g ∙ rw (← s, size) refl in
    let whole : length (slice ++ replicate (16 - length slice) 0) ≡ 16 =
    omega (arith, length-append slice (replicate (16 - length slice) 0), length-replicate {A = ℕ} (16 - length slice) 0) in
    let up : 16 * (k + 1) ≡ 16 * k + 16 = omega arith in
    let grown : before ++ take (16 * (k + 1)) (filled bytes) ≡ (before ++ take (16 * k) (filled bytes)) ++ (slice ++ replicate
    (16 - length slice) 0) =
    rw (up, take-add (16 * k) 16 (filled bytes), block) (sym (append_assoc before (take (16 * k) (filled bytes))
    (slice ++ replicate (16 - length slice) 0))) in
    rw grown (Hashes_more h (before ++ take (16 * k) (filled bytes)) (slice ++ replicate (16 - length slice) 0) number b next held whole is
    after)

-- after all the blocks the bytes are absorbed
pub Hashes_all : (h : List Bool) (before bytes : List ℕ) (k number : ℕ) → k ≡ div_ceil (length bytes) 16
    → Hashes h (before ++ take (16 * k) (filled bytes)) number → Hashes h (before ++ filled bytes) number
Hashes_all h before bytes k number e held =
    let all : take (16 * k) (filled bytes) ≡ filled bytes =
    take_all (16 * k) (filled bytes) (omega (
      arith,
      length-append bytes (replicate ((16 - length bytes % 16) % 16) 0),
      length-replicate
          {A = ℕ} ((16 - length bytes % 16) % 16) 0,
    )) in
    rw all at held

-- bytes in two parts, the first of whole blocks
pub filled_apart : (before bytes : List ℕ) (n : ℕ) → n % 16 ≡ 0 → n ≤ length bytes
    → (before ++ take n bytes) ++ filled (drop n bytes) ≡ before ++ filled bytes
filled_apart before bytes n h g =
    let z : ℕ = (16 - length bytes % 16) % 16 in
    let size : (16 - length (drop n bytes) % 16) % 16 ≡ z = omega (arith, length-drop n bytes) in
    ap (λ (k : ℕ). (before ++ take n bytes) ++ (drop n bytes ++ replicate k 0)) size
    ∙ append_assoc before (take n bytes) (drop n bytes ++ replicate z 0)
    ∙ ap (λ (t : List ℕ). before ++ t) (sym (append_assoc (take n bytes) (drop n bytes) (replicate z 0))
    ∙ ap (λ (t : List ℕ). t ++ replicate z 0) (take-append-drop n bytes))
