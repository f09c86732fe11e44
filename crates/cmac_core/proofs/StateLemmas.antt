-- What a feed has taken, byte by byte.
use Rattle.std.proofs.Common.{◌≡◌, ℕ, suc, ◌+◌, ◌-◌, ◌*◌, ◌<◌, ◌≤◌, List, [], ◌∷◌, ◌++◌, length, take, drop, set, replicate, get_or, refl, sym, ap, ◌∙◌, arith, length-drop}
use Rattle.std.proofs.lemmas.List.{append_assoc, drop-append-le, drop_at, take_all, take_more, take_more_set, length_push}
use Rattle.aes_core.specs.Cipher.{cipher}
use Rattle.gf2_polynomial.specs.Bytes.{bytes_sum}
use Rattle.cmac_core.specs.Cmac.{block_at, last_block, chained, cmac}
use Rattle.cmac_core.specs.State.{CmacState, before_last, HasTaken}
use Rattle.cmac_core.proofs.BlockLemmas.{chained-append, chained_one, chained_none, last_is}

-- a new one has taken nothing
pub HasTaken_none : (nk : ℕ) (s : CmacState) → s.chain ≡ replicate 16 0 → s.used ≡ 0 → HasTaken nk s []
HasTaken_none nk s zeros none = record {
  chain = zeros ∙ sym (chained_none (cipher nk s.key) []);
  count = none;
  kept = rw none refl;
}

-- one byte more, where there is room
pub HasTaken_room : (nk : ℕ) (s t : CmacState) (message : List ℕ) (byte : ℕ) → HasTaken nk s message → length s.kept ≡ 16 → s.used ≤ 16
    → (s.used ≡ 16 → ⊥) → t ≡ record { key = s.key; chain = s.chain; kept = set s.kept s.used byte; used = s.used + 1 }
    → HasTaken nk t (message ++ byte ∷ [])
HasTaken_room nk s t message byte held size few room e =
    let n : ℕ = length message in
    let p : ℕ = before_last message in
    let count : s.used ≡ n - 16 * p = held.count in
    let more : length (message ++ byte ∷ []) ≡ n + 1 = length_push message byte in
    let same : before_last (message ++ byte ∷ []) ≡ p = omega arith in
    let chain : chained (cipher nk s.key) (message ++ byte ∷ []) p ≡ chained (cipher nk s.key) message p =
    chained-append (cipher nk s.key) message (byte ∷ []) p (omega arith) in
    let back : drop (16 * p) (message ++ byte ∷ []) ≡ drop (16 * p) message ++ byte ∷ [] =
    drop-append-le (16 * p) message (byte ∷ []) (omega arith) in
    let kept : take (s.used + 1) (set s.kept s.used byte) ≡ drop (16 * p) message ++ byte ∷ [] =
    take_more_set s.kept s.used byte (omega arith) ∙ ap (λ (r : List ℕ). r ++ byte ∷ []) held.kept in
    rw e (record {
      chain = rw (same, chain) held.chain;
      count = omega arith;
      kept = rw (same, back) kept;
    })

-- one byte more, where a whole block is kept back: it wasn't the last one
pub HasTaken_full : (nk : ℕ) (s t : CmacState) (message chain : List ℕ) (byte : ℕ) → HasTaken nk s message → length s.kept ≡ 16 → s.used ≡ 16
    → chain ≡ cipher nk s.key (bytes_sum s.chain s.kept)
    → t ≡ record { key = s.key; chain = chain; kept = set s.kept 0 byte; used = 1 }
    → HasTaken nk t (message ++ byte ∷ [])
HasTaken_full nk s t message chain byte held size full next e =
    let c : List ℕ → List ℕ = cipher nk s.key in
    let n : ℕ = length message in
    let p : ℕ = before_last message in
    let count : s.used ≡ n - 16 * p = held.count in
    let more : length (message ++ byte ∷ []) ≡ n + 1 = length_push message byte in
    let place : before_last (message ++ byte ∷ []) ≡ suc p = omega arith in
    let whole : n ≡ 16 * suc p = omega arith in
    let block : s.kept ≡ block_at message p =
    sym (take_all 16 s.kept (omega arith)) ∙ ap (λ (m : ℕ). take m s.kept) (sym full) ∙ held.kept ∙ sym (last_is message) in
    let step : chain ≡ chained c (message ++ byte ∷ []) (suc p) =
    next ∙ rw (held.chain, block) (sym (chained_one c message p)) ∙ sym (chained-append c message (byte ∷ []) (suc p) (omega arith)) in
    let back : drop (16 * suc p) (message ++ byte ∷ []) ≡ byte ∷ [] = drop_at message (byte ∷ []) (16 * suc p) whole in
    let kept : take 1 (set s.kept 0 byte) ≡ byte ∷ [] = take_more_set s.kept 0 byte (omega arith) in
    rw e (record {
      chain = rw place step;
      count = omega arith;
      kept = rw (place, back) kept;
    })

-- one byte more of a piece
pub fed_more : (message piece : List ℕ) (i : ℕ) → i < length piece
    → (message ++ take i piece) ++ get_or piece i 0 ∷ [] ≡ message ++ take (i + 1) piece
fed_more message piece i h = append_assoc message (take i piece) (get_or piece i 0 ∷ [])
    ∙ ap (λ (t : List ℕ). message ++ t) (sym (take_more piece i 0 h))

-- the tag of what was taken
pub tag_is : (nk : ℕ) (s : CmacState) (message last tag : List ℕ) → HasTaken nk s message
    → last ≡ last_block (cipher nk s.key) (take s.used s.kept)
    → tag ≡ cipher nk s.key (bytes_sum s.chain last) → tag ≡ cmac (cipher nk s.key) message
unfolding cmac
tag_is nk s message last tag held l t =
    let e : List ℕ → List ℕ = cipher nk s.key in
    t ∙ ap (λ (chain : List ℕ). e (bytes_sum chain last)) held.chain
    ∙ ap (λ (block : List ℕ). e (bytes_sum (chained e message (before_last message)) block))
    (l ∙ ap (last_block e) (held.kept ∙ sym (last_is message)))
