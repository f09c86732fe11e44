-- What is told of each, one after the other.
use Rattle.std.proofs.Common.{◌≡◌, ℕ, ◌+◌, ◌<◌, List, [], ◌∷◌, ◌++◌, length, take, get_or, sym, ◌∙◌, ap}
use Rattle.std.proofs.lemmas.List.{append_assoc, append-nil, take_more}
use Rattle.bpsec_audit.specs.Lines.{each_after}

-- one more is told behind those before it
each_append : {A : Type 0} (f : List A → A → List (List ℕ)) (before xs : List A) (x : A) → each_after f before (xs ++ x ∷ []) ≡ each_after f before xs ++ f (before ++ xs) x
unfolding each_after
each_append f before [] x =
    append-nil (f before x) ∙ ap (λ all. f all x) (sym (append-nil before))
each_append f before (y ∷ ys) x =
    ap (λ lines. f before y ++ lines) (each_append f (before ++ y ∷ []) ys x)
    ∙ (ap (λ all. f before y ++ (each_after f (before ++ y ∷ []) ys ++ f all x)) (append_assoc before (y ∷ []) ys)
    ∙ sym (append_assoc (f before y) (each_after f (before ++ y ∷ []) ys) (f (before ++ y ∷ ys) x)))

-- a loop that told what is due of the first i, and then of the next, told it of the first i + 1
pub told_more : {A : Type 0} (f : List A → A → List (List ℕ)) (old lines new : List (List ℕ)) (xs : List A) (i : ℕ) (x : A) → i < length xs → x ≡ get_or xs i x
    → lines ≡ old ++ each_after f [] (take i xs) → new ≡ lines ++ f (take i xs) x → new ≡ old ++ each_after f [] (take (i + 1) xs)
told_more f old lines new xs i x within at so_far more =
    let one : take i xs ++ x ∷ [] ≡ take (i + 1) xs = ap (λ y. take i xs ++ y ∷ []) at ∙ sym (take_more xs i x within) in
    let step : each_after f [] (take i xs) ++ f (take i xs) x ≡ each_after f [] (take (i + 1) xs) = sym (each_append f [] (take i xs) x) ∙ ap (each_after f []) one in
    more
    ∙ (ap (λ all. all ++ f (take i xs) x) so_far
    ∙ (append_assoc old (each_after f [] (take i xs)) (f (take i xs) x)
    ∙ ap (λ all. old ++ all) step))

-- of none nothing is told
pub told_none : {A : Type 0} (f : List A → A → List (List ℕ)) (lines : List (List ℕ)) → lines ≡ lines ++ each_after f [] []
unfolding each_after
told_none f lines = sym (append-nil lines)
