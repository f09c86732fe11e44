-- What stands in a list, and what is found in it.
use Rattle.std.proofs.Common.{◌≡◌, ◌⊎◌, inl, inr, ℕ, zero, suc, Bool, true, false, cond, List, [], ◌∷◌, ◌++◌, Some, None, refl, sym, ◌∙◌, ap, arith}
use Rattle.std.specs.Prelude.{Contains}
use Rattle.std.specs.List.{slice_get, find}
use Rattle.std.specs.Option.{option_or}
use Rattle.std.proofs.lemmas.Option.{slice_get-get_or, get_or_from_slice_get, slice_get_within}

pub contains_get : {X : Type 0} (xs : List X) (k : ℕ) (x : X) → slice_get xs k ≡ Some x → Contains xs x
contains_get xs k x is = (k, slice_get_within xs k x is, get_or_from_slice_get xs k x x is)

pub get_contains : {X : Type 0} (xs : List X) (x : X) → Contains xs x → (k : ℕ) × (slice_get xs k ≡ Some x)
get_contains xs x in_xs = (in_xs.0, slice_get-get_or xs in_xs.0 x in_xs.1 ∙ ap (λ y. Some y) in_xs.2)

pub contains_first : {X : Type 0} (x : X) (xs : List X) → Contains (x ∷ xs) x
contains_first x xs = contains_get (x ∷ xs) 0 x refl

pub contains_later : {X : Type 0} (y : X) (xs : List X) (x : X) → Contains xs x → Contains (y ∷ xs) x
contains_later y xs x in_xs = let at = get_contains xs x in_xs in contains_get (y ∷ xs) (suc at.0) x at.1

pub contains_parts : {X : Type 0} (y : X) (xs : List X) (x : X) → Contains (y ∷ xs) x → (y ≡ x) ⊎ Contains xs x
contains_parts y xs x in_xs = let at = get_contains (y ∷ xs) x in_xs in by_place at.0 at.1
  where
    by_place : (k : ℕ) → slice_get (y ∷ xs) k ≡ Some x → (y ≡ x) ⊎ Contains xs x
    by_place zero is = inl cc
    by_place (suc k) is = inr (contains_get xs k x is)

pub contains_none : {X : Type 0} (x : X) → Contains [] x → ⊥
contains_none x in_none = let less = in_none.1 in omega arith

pub contains_pushed : {X : Type 0} (xs : List X) (y x : X) → Contains (xs ++ y ∷ []) x → Contains xs x ⊎ (y ≡ x)
contains_pushed [] y x in_xs = elim (contains_parts y [] x in_xs) [ inl is ↦ inr is | inr none ↦ inl none ]
contains_pushed (z ∷ xs) y x in_xs =
    elim (contains_parts z (xs ++ y ∷ []) x in_xs) [
      | inl is ↦ inl (contains_get (z ∷ xs) 0 x (ap (λ w. Some w) is))
      | inr more ↦ elim (contains_pushed xs y x more) [
        | inl earlier ↦ inl (contains_later z xs x earlier)
        | inr last ↦ inr last
      ]
    ]

pub find_is : {X : Type 0} (p : X → Bool) (xs : List X) (x : X) → find p xs ≡ Some x → Contains xs x × (p x ≡ true)
find_is p [] x is = absurd cc
find_is {X} p (y ∷ xs) x is = by_test (p y) refl is (find_is p xs x)
  where
    by_test : (b : Bool) → p y ≡ b → cond b (Some y) (find p xs) ≡ Some x → (find p xs ≡ Some x → Contains xs x × (p x ≡ true)) → Contains (y ∷ xs) x × (p x ≡ true)
    by_test true test e more = let same : y ≡ x = cc in (contains_get (y ∷ xs) 0 x (ap (λ w. Some w) same), ap p (sym same) ∙ test)
    by_test false test e more = let later = more e in (contains_later y xs x later.0, later.1)

found_by : {X : Type 0} (p : X → Bool) (z : X) (xs : List X) (x : X) (b : Bool) → p z ≡ b → (z ≡ x) ⊎ Contains xs x → p x ≡ true → (Contains xs x → (y : X) × (find p xs ≡ Some y)) → (y : X) × (cond b (Some z) (find p xs) ≡ Some y)
found_by p z xs x true here where_ test more = (z, refl)
found_by p z xs x false here (inl is) test more = absurd (let t : p z ≡ true = ap p is ∙ test in cc)
found_by p z xs x false here (inr later) test more = more later

pub is_found : {X : Type 0} (p : X → Bool) (xs : List X) (x : X) → Contains xs x → p x ≡ true → (y : X) × (find p xs ≡ Some y)
is_found p [] x in_xs test = absurd (contains_none x in_xs)
is_found p (z ∷ xs) x in_xs test = found_by p z xs x (p z) refl (contains_parts z xs x in_xs) test (λ later. is_found p xs x later test)

pub find_pushed : {X : Type 0} (p : X → Bool) (xs : List X) (y : X) → find p (xs ++ y ∷ []) ≡ option_or (find p xs) (cond (p y) (Some y) None)
find_pushed p [] y = refl
find_pushed {X} p (x ∷ xs) y = by_test (p x) (find_pushed p xs y)
  where
    by_test : (b : Bool) → find p (xs ++ y ∷ []) ≡ option_or (find p xs) (cond (p y) (Some y) None) → cond b (Some x) (find p (xs ++ y ∷ [])) ≡ option_or (cond b (Some x) (find p xs)) (cond (p y) (Some y) None)
    by_test true more = refl
    by_test false more = more
