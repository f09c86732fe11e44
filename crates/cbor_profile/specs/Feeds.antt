-- Feeding, one piece after another.
use Rattle.std.specs.Prelude.{◌≡◌, ℕ, ◌+◌, ◌≤◌, List, ◌++◌, length}
use Rattle.std.proofs.Common.{append_assoc, length-append, arith}

-- Fed these bytes, `old` became `new`: it stands for them after all that it stood for, as far as it can hold so many.
abbrev pub Feeds : {S : Type 0} → (S → List ℕ → Type 0) → ℕ → S → S → List ℕ → Type 0
Feeds stands_for most old new bytes =
    (fed : List ℕ) → stands_for old fed → length fed + length bytes ≤ most → stands_for new (fed ++ bytes)

-- two pieces fed one after the other are fed as one
pub feeds_both : {S : Type 0} (stands_for : S → List ℕ → Type 0) (most : ℕ) {s t u : S} {p q : List ℕ} → Feeds stands_for most s t p → Feeds stands_for most t u q → Feeds stands_for most s u (p ++ q)
feeds_both stands_for most {p} {q} first second fed holds room =
    let all : length (p ++ q) ≡ length p + length q = length-append p q in
    let front : length (fed ++ p) ≡ length fed + length p = length-append fed p in
    rw (← append_assoc) (second (fed ++ p) (first fed holds (omega arith)) (omega arith))
