-- The parts of a tag: lengths, and the block before the first counter.
use Rattle.std.proofs.Common.{◌≡◌, ℕ, ◌+◌, ◌-◌, ◌*◌, ◌/◌, ◌%◌, ◌^◌, ◌<◌, ◌↔◌, List, [], ◌∷◌, ◌++◌, length, take, set, replicate, get_or, bit_or, bit_xor, refl, sym, ap, ◌∙◌, arith, eq-eqb}
use Rattle.std.proofs.lemmas.List.{set-append_right, take_more, take_more_same, same_from_push, append-nil}
use Rattle.std.proofs.lemmas.Nat.{le_or_l, le_or_r}
use Rattle.std.proofs.lemmas.Bool.{ne_eqb}
use Rattle.std.specs.Int.Bits.{xor_assoc, xor_self, xor_zero_l, xor_zero_r}
use Rattle.std.specs.Int.{w64, w128, to_be_bytes}
use borrow.Rule.Slice.PartMut.{put_mid}
use Rattle.gcm_core.specs.Block.{block_of}
use Rattle.gcm_core.specs.Hash.{hash_of_blocks, ghash, filled, Hashes}
use Rattle.gcm_core.specs.Gcm.{first_block, hash_subkey, length_in_bits}
use Rattle.gcm_core.proofs.BlockLemmas.{block_of-bits}

-- ---- lengths

bytes_wrap : (n : ℕ) → to_be_bytes w64 (n % 2 ^ 64) ≡ to_be_bytes w64 n
bytes_wrap n =
    let b7 : n % 2 ^ 64 / 72057594037927936 % 256 ≡ n / 72057594037927936 % 256 = omega arith in
    let b6 : n % 2 ^ 64 / 281474976710656 % 256 ≡ n / 281474976710656 % 256 = omega arith in
    let b5 : n % 2 ^ 64 / 1099511627776 % 256 ≡ n / 1099511627776 % 256 = omega arith in
    let b4 : n % 2 ^ 64 / 4294967296 % 256 ≡ n / 4294967296 % 256 = omega arith in
    let b3 : n % 2 ^ 64 / 16777216 % 256 ≡ n / 16777216 % 256 = omega arith in
    let b2 : n % 2 ^ 64 / 65536 % 256 ≡ n / 65536 % 256 = omega arith in
    let b1 : n % 2 ^ 64 / 256 % 256 ≡ n / 256 % 256 = omega arith in
    let b0 : n % 2 ^ 64 % 256 ≡ n % 256 = omega arith in
    rw (b7, b6, b5, b4, b3, b2, b1, b0) refl

pub lengths_are : (a b : List ℕ) (left right x y : ℕ) → x ≡ left * 8 % 2 ^ 64 → y ≡ right * 8 % 2 ^ 64 → a ≡ to_be_bytes w64 x
    → b ≡ to_be_bytes w64 y
    → put_mid 8 8 (a ++ replicate 8 0) b ≡ length_in_bits left ++ length_in_bits right
unfolding length_in_bits
lengths_are a b left right x y g h e f =
    let l : a ≡ length_in_bits left = e ∙ ap (to_be_bytes w64) g ∙ bytes_wrap (left * 8) ∙ ap (to_be_bytes w64) (omega arith) in
    let r : b ≡ length_in_bits right = f ∙ ap (to_be_bytes w64) h ∙ bytes_wrap (right * 8) ∙ ap (to_be_bytes w64) (omega arith) in
    rw (l, r) refl

pub filled_whole : (bytes : List ℕ) → length bytes % 16 ≡ 0 → filled bytes ≡ bytes
filled_whole bytes h =
    let none : (16 - length bytes % 16) % 16 ≡ 0 = rw h refl in
    rw none (append-nil bytes)

-- ---- the block before the first counter

pub Hashes_none : (h : List _) → Hashes h [] 0
unfolding hash_of_blocks
Hashes_none h = record { whole = refl; hash = refl }

pub first_block_of_12 : (e : List ℕ → List ℕ) (iv : List ℕ) → length iv ≡ 12 → set (iv ++ 0 ∷ 0 ∷ 0 ∷ 0 ∷ []) 15 1 ≡ first_block e iv
unfolding first_block
first_block_of_12 e iv h = rw (eq-eqb (length iv) 12 h) (set-append_right iv (0 ∷ 0 ∷ 0 ∷ 0 ∷ []) 12 15 1 h (omega arith))

-- the bytes of a hash's number
pub bytes_of_hash : (h : List _) (bytes : List ℕ) (number : ℕ) → Hashes h bytes number → to_be_bytes w128 number ≡ block_of (ghash h bytes)
bytes_of_hash h bytes number held = sym (block_of-bits 16 number) ∙ ap block_of held.hash

pub first_block_of_others : (e : List ℕ → List ℕ) (iv lengths : List ℕ) (number : ℕ) → (length iv ≡ 12 → ⊥)
    → lengths ≡ length_in_bits 0 ++ length_in_bits (length iv)
    → length lengths ≡ 16 → Hashes (hash_subkey e) (filled iv ++ filled lengths) number → to_be_bytes w128 number ≡ first_block e iv
unfolding first_block length_in_bits
first_block_of_others e iv lengths number h l size held =
    rw (ne_eqb (length iv) 12 h)
    (bytes_of_hash (hash_subkey e) (filled iv ++ filled lengths) number held
    ∙ ap (λ (t : List ℕ). block_of (ghash (hash_subkey e) (filled iv ++ t))) (filled_whole lengths (rw size refl) ∙ l))
