-- Lists that grow.
use Rattle.std.proofs.Common.{◌≡◌, ℕ, ◌+◌, ◌<◌, List, [], ◌∷◌, length, take, map, get_or, sym, ◌∙◌, ap}
use Rattle.std.specs.Prelude.{fold}
use Rattle.std.proofs.lemmas.List.{take_more, map-append}
use Rattle.std.proofs.lemmas.List.Sums.{fold-append}

-- a fold over what a list maps to, as a loop goes over one element more
pub fold-map-more : {A B C : Type 0} (f : C → B → C) (start : C) (g : A → B) (xs : List A) (i : ℕ) (d : A) (old new : C) → i < length xs → old ≡ fold f start (map g (take i xs)) → new ≡ f old (g (get_or xs i d))
    → new ≡ fold f start (map g (take (i + 1) xs))
fold-map-more f start g xs i d old new lt so_far step =
    step ∙ ap (λ acc. f acc (g (get_or xs i d))) so_far
    ∙ sym (ap (λ l. fold f start (map g l)) (take_more xs i d lt)
    ∙ ap (fold f start) (map-append g (take i xs) (get_or xs i d ∷ []))
    ∙ fold-append f start (map g (take i xs)) (g (get_or xs i d) ∷ []))
