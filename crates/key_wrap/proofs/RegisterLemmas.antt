-- A register read and written.
use Rattle.std.proofs.Common.{◌≡◌, ℕ, ◌+◌, ◌-◌, ◌/◌, ◌%◌, ◌<◌, ◌≤◌, List, ◌++◌, length, take, drop, refl, sym, ap, ◌∙◌, arith, length-append, length-take, length-drop, append_assoc, append-nil}
use Rattle.std.proofs.lemmas.List.{take_at, drop_at, drop_all, drop-drop, take-append-drop, length-take-le}
use Rattle.std.proofs.lemmas.Nat.{mod_below}
use Rattle.key_wrap.specs.KeyWrap.{place, group, with_group}
use borrow.Rule.Slice.PartMut.{put_mid}

-- an array written in two halves
pub halves : (a z b : List ℕ) → length a ≡ 8 → length z ≡ 8 → put_mid 8 8 (a ++ z) b ≡ a ++ b
halves a z b e f =
    rw (take_at a z 8 e, drop_at a z 8 e, drop_all 8 z (omega arith), append-nil b) refl

-- the register of a step lies within the registers
pub place_within : (r : List ℕ) (t : ℕ) → 8 ≤ length r → length r % 8 ≡ 0 → place r t + 8 ≤ length r
place_within r t h w =
    let low : (t - 1) % (length r / 8) < length r / 8 = mod_below (t - 1) (length r / 8) (omega arith) in
    omega arith

module _ (r : List ℕ) (p : ℕ) (within : p + 8 ≤ length r) where
  front : length (take p r) ≡ p
  front = length-take-le p r (omega arith)

  pub length-group : length (group r p) ≡ 8
  length-group = simp (length-take, length-drop) (omega arith)

  pub length-with_group : (x : List ℕ) → length x ≡ 8 → length (with_group r p x) ≡ length r
  length-with_group x e = simp (length-append, length-take, length-drop) (omega arith)

  -- what was written is read
  pub group-with_group : (x : List ℕ) → length x ≡ 8 → group (with_group r p x) p ≡ x
  group-with_group x e =
      rw (append_assoc (take p r) x (drop (p + 8) r), drop_at (take p r) (x ++ drop (p + 8) r) p front)
      (take_at x (drop (p + 8) r) 8 e)

  -- a register written with what it held before the last write
  pub with_group-undone : (x : List ℕ) → length x ≡ 8 → with_group (with_group r p x) p (group r p) ≡ r
  with_group-undone x e =
      let both : length (take p r ++ x) ≡ p + 8 = omega (arith, length-append (take p r) x, front) in
      let rest : take 8 (drop p r) ++ drop (p + 8) r ≡ drop p r =
      ap (λ d. take 8 (drop p r) ++ d) (sym (drop-drop 8 p r)) ∙ take-append-drop 8 (drop p r) in
      rw (drop_at (take p r ++ x) (drop (p + 8) r) (p + 8) both, append_assoc (take p r) x (drop (p + 8) r), take_at (take p r) (x ++ drop (p + 8) r) p front, append_assoc (take p r) (take 8 (drop p r)) (drop (p + 8) r), rest)
      (take-append-drop p r)
