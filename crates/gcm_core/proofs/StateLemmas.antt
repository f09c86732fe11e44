-- What a sealer has taken, byte by byte.
use Rattle.std.proofs.Common.{◌≡◌, ℕ, ◌+◌, ◌-◌, ◌%◌, ◌^◌, ◌<◌, Bool, List, [], ◌∷◌, ◌++◌, length, take, drop, set, replicate, get_or, refl, sym, ap, ◌∙◌, subst, arith, length-drop}
use Rattle.std.proofs.lemmas.List.{append-nil, append_assoc, take-append-le, drop-append-le, take-append-drop, take_more, take_more_set, take_all, drop_all, length_push, length-set}
use Rattle.aes_core.specs.Cipher.{cipher}
use Rattle.gcm_core.specs.Block.{bits, polynomial_of}
use Rattle.gcm_core.specs.Hash.{filled, Hashes}
use Rattle.std.specs.Int.{w128, to_be_bytes}
use Rattle.gcm_core.specs.Counter.{bytes_sum, counter_mode}
use Rattle.gcm_core.specs.Gcm.{hash_subkey, first_block, length_in_bits, ciphered, tag_of}
use Rattle.gcm_core.specs.State.{GcmState, whole_len, HasTaken}
use Rattle.gcm_core.proofs.TagLemmas.{Hashes_none, filled_whole, bytes_of_hash}

-- the subkey as a number
pub subkey_is : (e : List ℕ → List ℕ) (block : List ℕ) (number : ℕ) → block ≡ e (replicate 16 0) → length block ≡ 16
    → bits 128 number ≡ polynomial_of (block ++ replicate (16 - length block) 0) → bits 128 number ≡ hash_subkey e
subkey_is e block number b size h =
    let none : block ++ replicate (16 - length block) 0 ≡ block = rw size (append-nil block) in
    h ∙ ap polynomial_of (none ∙ b)

-- a new one has taken nothing
pub HasTaken_none : (nk : ℕ) (s : GcmState) → s.hash ≡ 0 → s.fed ≡ 0 → HasTaken nk s []
HasTaken_none nk s h f = record {
  within = omega arith;
  count = f;
  hashed = rw h (Hashes_none (hash_subkey (cipher nk s.key)));
  kept = refl;
}

-- one byte more, which does not fill the block
pub HasTaken_short : (nk : ℕ) (s t : GcmState) (aad : List ℕ) (byte : ℕ) → HasTaken nk s aad → length aad < 2 ^ 61 - 1 → length s.rest ≡ 16
    → (s.fed % 16 ≡ 15 → ⊥) → t ≡ record { key = s.key; hash = s.hash; rest = set s.rest (s.fed % 16) byte; fed = (s.fed + 1) % 2 ^ 64 }
    → HasTaken nk t (aad ++ byte ∷ [])
HasTaken_short nk s t aad byte held few size open_ e =
    let n : ℕ = length aad in
    let more : length (aad ++ byte ∷ []) ≡ n + 1 = length_push aad byte in
    let count : s.fed ≡ n = held.count in
    let whole : whole_len (aad ++ byte ∷ []) ≡ whole_len aad = omega arith in
    let used : length (aad ++ byte ∷ []) % 16 ≡ n % 16 + 1 = omega arith in
    let front : take (whole_len aad) (aad ++ byte ∷ []) ≡ take (whole_len aad) aad =
    take-append-le (whole_len aad) aad (byte ∷ []) (omega arith) in
    let back : drop (whole_len aad) (aad ++ byte ∷ []) ≡ drop (whole_len aad) aad ++ byte ∷ [] =
    drop-append-le (whole_len aad) aad (byte ∷ []) (omega arith) in
    let kept : take (n % 16 + 1) (set s.rest (n % 16) byte) ≡ drop (whole_len aad) aad ++ byte ∷ [] =
    take_more_set s.rest (n % 16) byte (omega arith) ∙ ap (λ (r : List ℕ). r ++ byte ∷ []) held.kept in
    rw e (record {
      within = omega arith;
      count = omega arith;
      hashed = rw (whole, front) held.hashed;
      kept = rw (whole, used, back, count) kept;
    })

-- one byte more, which fills the block: the hash takes it in
pub HasTaken_full : (nk : ℕ) (s t : GcmState) (aad : List ℕ) (byte hash : ℕ) (subkey : List Bool) → HasTaken nk s aad → length aad < 2 ^ 61 - 1
    → length s.rest ≡ 16
    → s.fed % 16 ≡ 15 → subkey ≡ hash_subkey (cipher nk s.key)
    → ((before : List ℕ) → Hashes subkey before s.hash
    → Hashes subkey (before ++ filled (set s.rest (s.fed % 16) byte)) hash)
    → t ≡ record { key = s.key; hash = hash; rest = set s.rest (s.fed % 16) byte; fed = (s.fed + 1) % 2 ^ 64 }
    → HasTaken nk t (aad ++ byte ∷ [])
HasTaken_full nk s t aad byte hash subkey held few size full h absorbed e =
    let n : ℕ = length aad in
    let more : length (aad ++ byte ∷ []) ≡ n + 1 = length_push aad byte in
    let count : s.fed ≡ n = held.count in
    let last : s.fed % 16 ≡ n % 16 = omega arith in
    let whole : whole_len (aad ++ byte ∷ []) ≡ n + 1 = omega arith in
    let block : set s.rest (s.fed % 16) byte ≡ drop (whole_len aad) aad ++ byte ∷ [] =
    sym (take_all (n % 16 + 1) (set s.rest (s.fed % 16) byte) (omega (arith, length-set s.rest (s.fed % 16) byte)))
    ∙ rw last (take_more_set s.rest (n % 16) byte (omega arith)) ∙ ap (λ (r : List ℕ). r ++ byte ∷ []) held.kept in
    let block_size : length (set s.rest (s.fed % 16) byte) % 16 ≡ 0 = rw (length-set s.rest (s.fed % 16) byte, size) refl in
    let grown : take (whole_len aad) aad ++ filled (set s.rest (s.fed % 16) byte) ≡ aad ++ byte ∷ [] =
    rw (filled_whole (set s.rest (s.fed % 16) byte) block_size, block)
    (sym (append_assoc (take (whole_len aad) aad) (drop (whole_len aad) aad) (byte ∷ []))
    ∙ ap (λ (r : List ℕ). r ++ byte ∷ []) (take-append-drop (whole_len aad) aad)) in
    let before : Hashes subkey (take (whole_len aad) aad) s.hash = rw h held.hashed in
    let after : Hashes (hash_subkey (cipher nk s.key)) (aad ++ byte ∷ []) hash =
    rw (h, grown) at (absorbed (take (whole_len aad) aad) before) in
    let all : take (n + 1) (aad ++ byte ∷ []) ≡ aad ++ byte ∷ [] = take_all (n + 1) (aad ++ byte ∷ []) (omega arith) in
    let none : drop (n + 1) (aad ++ byte ∷ []) ≡ [] = drop_all (n + 1) (aad ++ byte ∷ []) (omega arith) in
    let used : length (aad ++ byte ∷ []) % 16 ≡ 0 = omega arith in
    rw e (record {
      within = omega arith;
      count = omega arith;
      hashed = rw (whole, all) after;
      kept = rw (whole, used, none) refl;
    })

-- one byte more of a piece
pub fed_more : (aad piece : List ℕ) (i : ℕ) → i < length piece → (aad ++ take i piece) ++ get_or piece i 0 ∷ [] ≡ aad ++ take (i + 1) piece
fed_more aad piece i h = append_assoc aad (take i piece) (get_or piece i 0 ∷ [])
    ∙ ap (λ (t : List ℕ). aad ++ t) (sym (take_more piece i 0 h))

-- the whole blocks and the bytes after them, filled, are the bytes, filled
filled_rest : (aad rest : List ℕ) → rest ≡ drop (whole_len aad) aad → take (whole_len aad) aad ++ filled rest ≡ filled aad
filled_rest aad rest e =
    let used : length rest % 16 ≡ length aad % 16 = omega (arith, ap length e, length-drop (whole_len aad) aad) in
    rw (used, e) (sym (append_assoc (take (whole_len aad) aad) (drop (whole_len aad) aad) (replicate ((16 - length aad % 16) % 16) 0))
    ∙ ap (λ (t : List ℕ). t ++ replicate ((16 - length aad % 16) % 16) 0) (take-append-drop (whole_len aad) aad))

-- the hash under the subkey goes on by these bytes, from one number to the next
abbrev pub GoesOn : List Bool → List ℕ → ℕ → ℕ → Type 0
GoesOn subkey bytes from to = (before : List ℕ) → Hashes subkey before from
    → Hashes subkey (before ++ filled bytes) to

module _ (nk : ℕ) (s : GcmState) (iv aad ciphertext first lengths block stream tag : List ℕ)
    (subkey : List Bool) (after_aad after_ciphertext after_lengths : ℕ)
    (key : subkey ≡ hash_subkey (cipher nk s.key)) (a : GoesOn subkey (take (s.fed % 16) s.rest) s.hash after_aad)
    (b : GoesOn subkey ciphertext after_aad after_ciphertext) (c : GoesOn subkey lengths after_ciphertext after_lengths)
    (l : lengths ≡ length_in_bits s.fed ++ length_in_bits (length ciphertext)) (size : length lengths ≡ 16)
    (e : stream ≡ cipher nk s.key first) (n : block ≡ to_be_bytes w128 after_lengths) (t : tag ≡ bytes_sum stream block) where
  tag_of_state : HasTaken nk s aad → first ≡ first_block (cipher nk s.key) iv → tag ≡ tag_of (cipher nk s.key) iv aad ciphertext
  unfolding tag_of
  tag_of_state held f =
      let last : s.fed % 16 ≡ length aad % 16 = ap (λ (m : ℕ). m % 16) held.count in
      let rest : take (s.fed % 16) s.rest ≡ drop (whole_len aad) aad = ap (λ (m : ℕ). take m s.rest) last ∙ held.kept in
      let start : Hashes subkey (take (whole_len aad) aad) s.hash = rw key held.hashed in
      let taken : take (whole_len aad) aad ++ filled (take (s.fed % 16) s.rest) ≡ filled aad =
      filled_rest aad (take (s.fed % 16) s.rest) rest in
      let one : Hashes subkey (filled aad) after_aad = rw taken at (a (take (whole_len aad) aad) start) in
      let spelled : filled lengths ≡ length_in_bits (length aad) ++ length_in_bits (length ciphertext) =
      filled_whole lengths (rw size refl) ∙ l ∙ ap (λ (m : ℕ). length_in_bits m ++ length_in_bits (length ciphertext)) held.count in
      let all : Hashes (hash_subkey (cipher nk s.key)) (filled aad ++ filled
      ciphertext ++ (length_in_bits (length aad) ++ length_in_bits (length ciphertext))) after_lengths =
      rw (key, spelled) at (c (filled aad ++ filled ciphertext) (b (filled aad) one)) in
      t ∙ rw (e, f, n, bytes_of_hash _ _ after_lengths all) refl

  pub tag_from : (v : GcmState) → s ≡ v → HasTaken nk v aad → first ≡ first_block (cipher nk v.key) iv
      → tag ≡ tag_of (cipher nk v.key) iv aad ciphertext
  tag_from v same =
      subst (λ (v : GcmState). HasTaken nk v aad → first ≡ first_block (cipher nk v.key) iv
      → tag ≡ tag_of (cipher nk v.key) iv aad ciphertext) same tag_of_state

-- what counter mode leaves is the body under the initialisation vector
pub ciphered_from : (nk : ℕ) (s v : GcmState) (iv first body new : List ℕ) → s ≡ v → first ≡ first_block (cipher nk s.key) iv
    → new ≡ counter_mode (cipher nk s.key) first body → new ≡ ciphered (cipher nk v.key) iv body
unfolding ciphered
ciphered_from nk s v iv first body new e f n =
    n ∙ ap (λ (b : List ℕ). counter_mode (cipher nk s.key) b body) f
    ∙ ap (λ (v : GcmState). counter_mode (cipher nk v.key) (first_block (cipher nk v.key) iv) body) e
