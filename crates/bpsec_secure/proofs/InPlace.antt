-- Blocks that are changed in place, one after the other.
use Rattle.std.proofs.Common.{◌≡◌, ℕ, zero, suc, ◌+◌, ◌<◌, List, [], ◌∷◌, ◌++◌, length, map, take, drop, get_or, refl, sym, ap, ◌∙◌, arith, append_assoc}
use Rattle.std.proofs.Math.ListN.{set}
use Rattle.std.proofs.lemmas.List.{map_more}
use Rattle.std.proofs.lemmas.List.Edits.{map_over_more}

pub at_seam : {A : Type 0} (f : A → A) (xs : List A) (i : ℕ) (d : A) → i < length xs → get_or (map f (take i xs) ++ drop i xs) i d ≡ get_or xs i d
at_seam f [] i d within = absurd (omega arith)
at_seam f (x ∷ xs) zero d within = refl
at_seam f (x ∷ xs) (suc i) d within = at_seam f xs i d (omega arith)

pub sealed_step : {A : Type 0} (f : A → A) (xs items : List A) (i : ℕ) (x y : A) → i < length xs → items ≡ map f (take i xs) ++ drop i xs → x ≡ get_or items i x → y ≡ f (get_or items i x) → set items i y ≡ map f (take (i + 1) xs) ++ drop (i + 1) xs
sealed_step f xs items i x y within are is made = rw (made, ← is) (map_over_more f xs items i x within are is)

pub tags_step : {A B : Type 0} (f : A → A) (g : A → B) (xs items : List A) (i : ℕ) (x : A) → i < length xs → items ≡ map f (take i xs) ++ drop i xs → (first before after : List B) → before ≡ first ++ map g (take i xs) → after ≡ before ++ g (get_or items i x) ∷ [] → after ≡ first ++ map g (take (i + 1) xs)
tags_step {A} {B} f g xs items i x within are first before after so_far next =
    let here : get_or items i x ≡ get_or xs i x = ap (λ (ys : List A). get_or ys i x) are ∙ at_seam f xs i x within in
    let more : map g (take (i + 1) xs) ≡ map g (take i xs) ++ g (get_or xs i x) ∷ [] = map_more g xs i x within in
    next ∙ (ap (λ (ys : List B). ys ++ g (get_or items i x) ∷ []) so_far ∙ (append_assoc first (map g (take i xs)) (g (get_or items i x) ∷ []) ∙ (ap (λ (y : A). first ++ (map g (take i xs) ++ g y ∷ [])) here ∙ ap (λ (ys : List B). first ++ ys) (sym more))))
