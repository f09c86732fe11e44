-- Pieces that are given or written one after the other.
use Rattle.std.proofs.Common.{◌≡◌, ℕ, ◌+◌, List, ◌++◌, length, take, drop, ap, sym, ◌∙◌, append_assoc}
use Rattle.std.specs.Prelude.{Option, Some, None, option_map}
use Rattle.std.proofs.Math.Seq.{take-add, take-append_seam}
use Rattle.std.proofs.lemmas.List.{drop-drop, take-append-drop}
use Rattle.bp_outside.specs.Outside.{Taken, Appended}

-- one piece is written, and then another
pub Appended-then : (a b c : Option (List ℕ)) (xs ys : List ℕ) →
    Appended a xs b → Appended b ys c → Appended a (xs ++ ys) c
Appended-then None b c xs ys first then = then ∙ ap (option_map (λ w. w ++ ys)) first
Appended-then (Some w) b c xs ys first then =
    then ∙ (ap (option_map (λ w. w ++ ys)) first ∙ ap (λ v. Some v) (append_assoc w xs ys))

-- the first bytes of a piece are written, and then the next ones
pub Appended-more : (a b c : Option (List ℕ)) (i n : ℕ) (piece : List ℕ) →
    Appended a (take i piece) b → Appended b (take n (drop i piece)) c → Appended a (take (i + n) piece) c
Appended-more a b c i n piece first then =
    rw take-add (Appended-then a b c (take i piece) (take n (drop i piece)) first then)

-- what was left is what stands in front of the buffer, and then the rest
pub given_parts : (bytes front back : List ℕ) (given n : ℕ) →
    length front ≡ n → front ≡ take n (drop given bytes) →
    drop given bytes ≡ take n (front ++ back) ++ drop (given + n) bytes
given_parts bytes front back given n len e =
    let whole : take n (front ++ back) ≡ front = rw (← len) (take-append_seam front back) in
    rw (whole, e, ← drop-drop) (sym (take-append-drop n (drop given bytes)))
