-- What stands in front of a piece stays where it stands in front of more.
use Rattle.std.proofs.Common.{◌≡◌, ℕ, List, ◌++◌, ◌≤◌, length, take, Result, Ok, Err, refl, sym, ◌∙◌, ap, subst, arith}
use Rattle.std.specs.Prelude.{OnErr}
use Rattle.std.proofs.lemmas.List.{take_at, take-take, length-append}

-- it begins so
abbrev pub Begins : List ℕ → List ℕ → Type 0
Begins front all = take (length front) all ≡ front

begins_before : (front piece all : List ℕ) → Begins (front ++ piece) all → Begins front all
begins_before front piece all begins =
    let shorter : length front ≤ length (front ++ piece) = omega (arith, length-append front piece) in
    sym (take-take (length front) (length (front ++ piece)) all shorter) ∙ (ap (take (length front)) begins ∙ take_at front piece (length front) refl)

pub begins_after : {T E : Type 0} (r : Result T E) (front piece old all : List ℕ) → old ≡ front ++ piece → OnErr r (Begins old all) → OnErr r (Begins front all)
begins_after (Ok x) front piece old all is h = tt
begins_after (Err e) front piece old all is h = begins_before front piece all (subst (λ (l : List ℕ). Begins l all) is h)
