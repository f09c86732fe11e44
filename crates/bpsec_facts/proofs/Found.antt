-- What holds of each element of a list holds of one that is found there.
use Rattle.std.proofs.Common.{◌≡◌, Bool, true, false, List, [], ◌∷◌, refl}
use Rattle.std.specs.Prelude.{find, All, IfSome}
use Rattle.std.proofs.lemmas.List.Elements.{All-head, All-tail}

found_by : {X : Type 0} (P : X → Type 0) (p : X → Bool) (x : X) (xs : List X) (b : Bool) → p x ≡ b → P x → IfSome (find p xs) P → IfSome (find p (x ∷ xs)) P
found_by P p x xs true is here rest = rw is here
found_by P p x xs false is here rest = rw is rest

pub found : {X : Type 0} (P : X → Type 0) (p : X → Bool) (xs : List X) → All P xs → IfSome (find p xs) P
found P p [] all = tt
found P p (x ∷ xs) all = found_by P p x xs (p x) refl (All-head P x xs all) (found P p xs (All-tail P x xs all))
