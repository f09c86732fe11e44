-- The chain reads only the blocks that it counts, and the last block stands behind the others.
use Rattle.std.proofs.Common.{◌≡◌, ℕ, zero, suc, ◌+◌, ◌-◌, ◌*◌, ◌≤◌, List, ◌∷◌, ◌++◌, length, take, drop, set, replicate, refl, sym, ap, ◌∙◌, arith, length-drop, eq-eqb}
use Rattle.std.proofs.lemmas.List.{append-nil, take-append-le, drop-append-le, take_all, drop-replicate, set_at}
use Rattle.std.proofs.lemmas.Bool.{ne_eqb}
use borrow.Rule.Slice.PartMut.{post_of}
use Rattle.gf2_polynomial.specs.Bytes.{bytes_sum}
use Rattle.cmac_core.specs.Cmac.{first_subkey, second_subkey, block_at, padded, last_block, chained}
use Rattle.cmac_core.specs.State.{before_last}

pub chained-append : (e : List ℕ → List ℕ) (message more : List ℕ) (n : ℕ) → 16 * n ≤ length message
    → chained e (message ++ more) n ≡ chained e message n
unfolding chained
chained-append e message more zero g = refl
chained-append e message more (suc n) g =
    let fits : 16 ≤ length (drop (16 * n) message) = omega (arith, length-drop (16 * n) message) in
    let block : take 16 (drop (16 * n) (message ++ more)) ≡ take 16 (drop (16 * n) message) =
    rw (drop-append-le (16 * n) message more (omega arith)) (take-append-le 16 (drop (16 * n) message) more fits) in
    rw (block, chained-append e message more n (omega arith)) refl

pub chained_one : (e : List ℕ → List ℕ) (message : List ℕ) (n : ℕ)
    → chained e message (suc n) ≡ e (bytes_sum (chained e message n) (block_at message n))
unfolding chained
chained_one e message n = refl

pub chained_none : (e : List ℕ → List ℕ) (message : List ℕ) → chained e message 0 ≡ replicate 16 0
unfolding chained
chained_none e message = refl

-- all that stands behind the blocks before the last one is the last one
pub last_is : (message : List ℕ) → block_at message (before_last message) ≡ drop (16 * before_last message) message
last_is message =
    take_all 16 (drop (16 * before_last message) message) (omega (arith, length-drop (16 * before_last message) message))

pub last_block_whole : (e : List ℕ → List ℕ) (block : List ℕ) → length block ≡ 16 → last_block e block ≡ bytes_sum block (first_subkey e)
unfolding last_block
last_block_whole e block h = rw (eq-eqb (length block) 16 h) refl

pub last_block_short : (e : List ℕ → List ℕ) (block : List ℕ) → (length block ≡ 16 → ⊥) → last_block e block ≡ bytes_sum (padded block) (second_subkey e)
unfolding last_block
last_block_short e block h = rw (ne_eqb (length block) 16 h) refl

-- an array of zeros with the block at its front
front_of : (block ys : List ℕ) → ys ≡ block → ys ++ post_of 0 (length block) (replicate 16 0) ≡ block ++ replicate (16 - length block) 0
front_of block ys e =
    ap (λ (y : List ℕ). y ++ post_of 0 (length block) (replicate 16 0)) e
    ∙ ap (λ (z : List ℕ). block ++ z) (drop-replicate (length block) 16 0)

padded_front : (block : List ℕ) → length block ≤ 15 → set (block ++ replicate (16 - length block) 0) (length block) 128 ≡ padded block
padded_front block h =
    let more : 16 - length block ≡ suc (15 - length block) = omega arith in
    rw more (set_at block 0 (replicate (15 - length block) 0) 128 (length block) refl)

pub last_whole : (e : List ℕ → List ℕ) (block ys subkey last : List ℕ) → length block ≡ 16 → ys ≡ block → subkey ≡ first_subkey e
    → last ≡ bytes_sum (ys ++ post_of 0 (length block) (replicate 16 0)) subkey → last ≡ last_block e block
last_whole e block ys subkey last size front key is =
    let none : 16 - length block ≡ 0 = omega arith in
    let whole : ys ++ post_of 0 (length block) (replicate 16 0) ≡ block =
    front_of block ys front ∙ ap (λ (n : ℕ). block ++ replicate n 0) none ∙ append-nil block in
    is ∙ ap (λ (b : List ℕ). bytes_sum b subkey) whole ∙ ap (bytes_sum block) key ∙ sym (last_block_whole e block size)

pub last_short : (e : List ℕ → List ℕ) (block ys subkey last : List ℕ) → length block ≤ 16 → (length block ≡ 16 → ⊥) → ys ≡ block
    → subkey ≡ second_subkey e
    → last ≡ bytes_sum (set (ys ++ post_of 0 (length block) (replicate 16 0)) (length block) 128) subkey → last ≡ last_block e block
last_short e block ys subkey last within short front key is =
    let filled : set (ys ++ post_of 0 (length block) (replicate 16 0)) (length block) 128 ≡ padded block =
    ap (λ (b : List ℕ). set b (length block) 128) (front_of block ys front) ∙ padded_front block (omega arith) in
    is ∙ ap (λ (b : List ℕ). bytes_sum b subkey) filled ∙ ap (bytes_sum (padded block)) key ∙ sym (last_block_short e block short)
