-- The streams after the first sixteen blocks.
use Rattle.std.proofs.Common.{◌≡◌, ℕ, ◌+◌, ◌-◌, ◌*◌, ◌<◌, ◌≤◌, List, ◌++◌, length, take, drop, get_or, replicate, bit_xor, sym, ap, ◌∙◌, arith, length-take-le, length-drop, get_or-take, get_or-drop, zero-add}
use Rattle.std.proofs.lemmas.List.{append-nil}
use Rattle.std.proofs.lemmas.Simd.{length-chunk, get_or-chunk, get_or-put_chunk_above}
use Rattle.std.specs.Int.{w128, to_be_bytes}
use lib.Lanes.{chunk, put_chunk}
use Rattle.gcm_core.specs.Polynomial.{polynomial_sum}
use Rattle.gcm_core.specs.Block.{bits, polynomial_of}
use Rattle.gcm_core.specs.Hash.{block_at}
use Rattle.gcm_core.specs.Streams.{stream_in}
use Rattle.gcm_core.proofs.BitsLemmas.{bits-xor}
use Rattle.gcm_core.proofs.ByteLemmas.{polynomial_of-bytes}
use Rattle.gcm_core.proofs.RegisterLemmas.{stored_at}
use Rattle.gcm_core.proofs.StreamLemmas.{stream_is}

module _ (bytes rows first turned : List ℕ) (number : ℕ) (long : 256 ≤ length bytes) (copied : rows ≡ take 256 bytes)
    (spelled : first ≡ to_be_bytes w128 number)
    (swapped : (i j : ℕ) → i < 16 → j < 16 → get_or turned (16 * i + j) 0 ≡ get_or (put_chunk 0 rows (chunk 0 16 first)) (16 * j + i) 0) where
  length-first : length first ≡ 16
  length-first = ap length spelled

  length-chunk_of_first : length (chunk 0 16 first) ≡ 16
  length-chunk_of_first = length-chunk 0 16 first (omega (arith, length-first))

  length-rows : length rows ≡ 256
  length-rows = ap length copied ∙ length-take-le 256 bytes long

  pub first_stream : (hash block : ℕ) (slice : List ℕ) → number ≡ bit_xor hash block → slice ≡ take 16 bytes
      → bits 128 block ≡ polynomial_of (slice ++ replicate (16 - length slice) 0)
      → polynomial_of (stream_in turned 0) ≡ polynomial_sum (bits 128 hash) (block_at bytes 0)
  first_stream hash block slice e s b =
      let size : length slice ≡ 16 = ap length s ∙ length-take-le 16 bytes (omega arith) in
      let none : slice ++ replicate (16 - length slice) 0 ≡ slice = rw size (append-nil slice) in
      ap polynomial_of (stream_is turned first 0 length-first (λ i l.
      swapped i 0 l (omega arith)
      ∙ stored_at rows (chunk 0 16 first) 0 length-chunk_of_first (omega (arith, length-rows)) i (16 * 0 + i) l (omega arith)
      ∙ get_or-chunk 0 16 first i 0 l ∙ ap (λ (n : ℕ). get_or first n 0) (zero-add i)))
      ∙ ap polynomial_of spelled ∙ polynomial_of-bytes 16 number ∙ ap (bits 128) e ∙ bits-xor 128 hash block
      ∙ ap (polynomial_sum (bits 128 hash)) (b ∙ ap polynomial_of (none ∙ s))

  pub other_stream : (j : ℕ) → 0 < j → j < 16 → polynomial_of (stream_in turned j) ≡ block_at bytes j
  other_stream j a h =
      ap polynomial_of (stream_is turned (take 16 (drop (16 * j) bytes)) j
      (length-take-le 16 (drop (16 * j) bytes) (omega (arith, length-drop (16 * j) bytes)))
      (λ b l.
      swapped b j l h
      ∙ get_or-put_chunk_above 0 rows (chunk 0 16 first) (16 * j + b) 0 (omega (arith, length-chunk_of_first))
      ∙ ap (λ (t : List ℕ). get_or t (16 * j + b) 0) copied ∙ get_or-take 256 bytes (16 * j + b) 0 (omega arith)
      ∙ sym (get_or-take 16 (drop (16 * j) bytes) b 0 l ∙ get_or-drop (16 * j) bytes b 0)))
