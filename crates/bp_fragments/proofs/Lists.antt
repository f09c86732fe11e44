-- Lists, place by place.
use Rattle.std.proofs.Common.{◌≡◌, ℕ, zero, suc, ◌+◌, ◌-◌, ◌<◌, ◌≤◌, Bool, true, false, List, [], ◌∷◌, ◌++◌, length, map, take, drop, get_or, Option, Some, None, refl, sym, ◌∙◌, ap, arith, length-append, length-drop}
use Rattle.std.proofs.Common.{inl, inr}
use Rattle.std.proofs.lemmas.Bool.{cases_lt}
use Rattle.std.specs.Prelude.{slice_range}
use Rattle.std.specs.List.{slice_get, position}
use Rattle.std.proofs.lemmas.List.{map_push, length-take}
use Rattle.std.proofs.lemmas.List.Quantifiers.{position-Some}
use Rattle.bp_bundle.proofs.ShapeRules.{position_none}
use Rattle.bp_fragments.specs.Cut.{below}

pub same_list : {X : Type 0} (xs ys : List X) → ((k : ℕ) → slice_get xs k ≡ slice_get ys k) → xs ≡ ys
same_list [] [] same = refl
same_list [] (y ∷ ys) same = absurd (let h = same 0 in cc)
same_list (x ∷ xs) [] same = absurd (let h = same 0 in cc)
same_list {X} (x ∷ xs) (y ∷ ys) same =
    let first : x ≡ y = (let h = same 0 in cc) in
    ap (λ (z : X). z ∷ xs) first ∙ ap (λ (zs : List X). y ∷ zs) (same_list xs ys (λ k. same (suc k)))

pub get_front : {X : Type 0} (xs ys : List X) (k : ℕ) → k < length xs → slice_get (xs ++ ys) k ≡ slice_get xs k
get_front [] ys k within = absurd (omega arith)
get_front (x ∷ xs) ys zero within = refl
get_front (x ∷ xs) ys (suc k) within = get_front xs ys k (omega arith)

pub get_last : {X : Type 0} (xs : List X) (y : X) (k : ℕ) → k ≡ length xs → slice_get (xs ++ y ∷ []) k ≡ Some y
get_last [] y zero is = refl
get_last [] y (suc k) is = absurd (omega arith)
get_last (x ∷ xs) y zero is = absurd (omega arith)
get_last (x ∷ xs) y (suc k) is = get_last xs y k (omega arith)

pub get_behind : {X : Type 0} (xs : List X) (k : ℕ) → length xs ≤ k → slice_get xs k ≡ None
get_behind [] k behind = refl
get_behind (x ∷ xs) zero behind = absurd (omega arith)
get_behind (x ∷ xs) (suc k) behind = get_behind xs k (omega arith)

pub length_map_below : {X : Type 0} (f : ℕ → X) (n : ℕ) → length (map f (below n)) ≡ n
length_map_below f zero = refl
length_map_below f (suc n) = rw (map_push f (below n) n) (omega (arith, length-append (map f (below n)) (f n ∷ []), length_map_below f n))

by_place : {X : Type 0} (f : ℕ → X) (n k : ℕ) → (k < n) → slice_get (map f (below n)) k ≡ Some (f k) → slice_get (map f (below n) ++ f n ∷ []) k ≡ Some (f k)
by_place f n k within is = get_front (map f (below n)) (f n ∷ []) k (omega (arith, length_map_below f n)) ∙ is

pub get_map_below : {X : Type 0} (f : ℕ → X) (n k : ℕ) → k < n → slice_get (map f (below n)) k ≡ Some (f k)
get_map_below f zero k within = absurd (omega arith)
get_map_below {X} f (suc n) k within =
    ap (λ (xs : List X). slice_get xs k) (map_push f (below n) n) ∙ elim (cases_lt k n) [
      | inl less ↦ by_place f n k less (get_map_below f n k less)
      | inr le ↦ (let is : k ≡ n = omega arith in get_last (map f (below n)) (f n) k (is ∙ sym (length_map_below f n)) ∙ ap (λ (i : ℕ). Some (f i)) (sym is))
    ]

-- a function on numbers tells a list of it
pub map_below_same : {X : Type 0} (f g : ℕ → X) (n : ℕ) → ((k : ℕ) → k < n → f k ≡ g k) → map f (below n) ≡ map g (below n)
map_below_same f g zero same = refl
map_below_same {X} f g (suc n) same =
    map_push f (below n) n ∙ (ap (λ (xs : List X). xs ++ f n ∷ []) (map_below_same f g n (λ k within. same k (omega arith))) ∙ (ap (λ (y : X). map g (below n) ++ y ∷ []) (same n (omega arith)) ∙ sym (map_push g (below n) n)))

-- ---- parts

pub get_or_drop : (xs : List ℕ) (a k : ℕ) → get_or (drop a xs) k 0 ≡ get_or xs (a + k) 0
get_or_drop xs zero k = ap (λ (i : ℕ). get_or xs i 0) (omega arith)
get_or_drop [] (suc a) k = refl
get_or_drop (x ∷ xs) (suc a) k = let e : suc (a + k) ≡ suc a + k = omega arith in get_or_drop xs a k ∙ ap (λ (i : ℕ). get_or (x ∷ xs) i 0) e

pub get_or_take : (xs : List ℕ) (n k : ℕ) → k < n → get_or (take n xs) k 0 ≡ get_or xs k 0
get_or_take [] zero k within = refl
get_or_take [] (suc n) k within = refl
get_or_take (x ∷ xs) zero k within = absurd (omega arith)
get_or_take (x ∷ xs) (suc n) zero within = refl
get_or_take (x ∷ xs) (suc n) (suc k) within = get_or_take xs n k (omega arith)

pub get_or_range : (xs : List ℕ) (a b k : ℕ) → a + k < b → get_or (slice_range xs a b) k 0 ≡ get_or xs (a + k) 0
get_or_range xs a b k within = get_or_take (drop a xs) (b - a) k (omega arith) ∙ get_or_drop xs a k

-- ---- places of parts

pub get_past : {X : Type 0} (xs ys : List X) (k : ℕ) → slice_get (xs ++ ys) (length xs + k) ≡ slice_get ys k
get_past [] ys k = ap (λ (i : ℕ). slice_get ys i) (omega arith)
get_past (x ∷ xs) ys k = let e : length (x ∷ xs) + k ≡ suc (length xs + k) = omega arith in ap (λ (i : ℕ). slice_get (x ∷ (xs ++ ys)) i) e ∙ get_past xs ys k

pub get_take : {X : Type 0} (xs : List X) (n k : ℕ) → k < n → slice_get (take n xs) k ≡ slice_get xs k
get_take [] zero k within = refl
get_take [] (suc n) k within = refl
get_take (x ∷ xs) zero k within = absurd (omega arith)
get_take (x ∷ xs) (suc n) zero within = refl
get_take (x ∷ xs) (suc n) (suc k) within = get_take xs n k (omega arith)

pub get_drop : {X : Type 0} (xs : List X) (a k : ℕ) → slice_get (drop a xs) k ≡ slice_get xs (a + k)
get_drop xs zero k = ap (λ (i : ℕ). slice_get xs i) (omega arith)
get_drop [] (suc a) k = refl
get_drop (x ∷ xs) (suc a) k = let e : suc (a + k) ≡ suc a + k = omega arith in get_drop xs a k ∙ ap (λ (i : ℕ). slice_get (x ∷ xs) i) e

-- a piece written over the bytes from a place on
abbrev pub written : List ℕ → ℕ → List ℕ → List ℕ
written bytes offset piece = take offset bytes ++ piece ++ drop (offset + length piece) bytes

pub length-written : (bytes : List ℕ) (offset : ℕ) (piece : List ℕ) → offset + length piece ≤ length bytes → length (written bytes offset piece) ≡ length bytes
length-written bytes offset piece within =
    omega (arith, length-append (take offset bytes ++ piece) (drop (offset + length piece) bytes), length-append (take offset bytes) piece, length-take offset bytes, length-drop (offset + length piece) bytes)

front_size : (bytes : List ℕ) (offset : ℕ) → offset ≤ length bytes → length (take offset bytes) ≡ offset
front_size bytes offset within = omega (arith, length-take offset bytes)

pub written_before : (bytes : List ℕ) (offset : ℕ) (piece : List ℕ) (k : ℕ) → offset + length piece ≤ length bytes → k < offset → slice_get (written bytes offset piece) k ≡ slice_get bytes k
written_before bytes offset piece k within less =
    get_front (take offset bytes ++ piece) (drop (offset + length piece) bytes) k (omega (arith, length-append (take offset bytes) piece, length-take offset bytes))
    ∙ (get_front (take offset bytes) piece k (omega (arith, length-take offset bytes)) ∙ get_take bytes offset k less)

pub written_here : (bytes : List ℕ) (offset : ℕ) (piece : List ℕ) (k : ℕ) → offset + length piece ≤ length bytes → k < length piece → slice_get (written bytes offset piece) (offset + k) ≡ slice_get piece k
written_here bytes offset piece k within less =
    let size : length (take offset bytes) ≡ offset = front_size bytes offset (omega arith) in
    get_front (take offset bytes ++ piece) (drop (offset + length piece) bytes) (offset + k) (omega (arith, length-append (take offset bytes) piece, size))
    ∙ (ap (λ (i : ℕ). slice_get (take offset bytes ++ piece) (i + k)) (sym size) ∙ get_past (take offset bytes) piece k)

pub written_behind : (bytes : List ℕ) (offset : ℕ) (piece : List ℕ) (k : ℕ) → offset + length piece ≤ length bytes → offset + length piece ≤ k → slice_get (written bytes offset piece) k ≡ slice_get bytes k
written_behind bytes offset piece k within past =
    let size : length (take offset bytes ++ piece) ≡ offset + length piece = omega (arith, length-append (take offset bytes) piece, length-take offset bytes) in
    let at : k ≡ length (take offset bytes ++ piece) + (k - (offset + length piece)) = omega (arith, size) in
    let back : offset + length piece + (k - (offset + length piece)) ≡ k = omega arith in
    ap (λ (i : ℕ). slice_get (written bytes offset piece) i) at
    ∙ (get_past (take offset bytes ++ piece) (drop (offset + length piece) bytes) (k - (offset + length piece))
    ∙ (get_drop bytes (offset + length piece) (k - (offset + length piece)) ∙ ap (λ (i : ℕ). slice_get bytes i) back))

-- ---- the first that is missing

pub first_is : {X : Type 0} (p : X → Bool) (xs : List X) (place : ℕ) (d : X) → place < length xs → p (get_or xs place d) ≡ true → ((k : ℕ) → k < place → p (get_or xs k d) ≡ false) → position p xs ≡ Some place
first_is p xs place d within here before = by_found (position p xs) refl
  where
    by_found : (found : Option ℕ) → position p xs ≡ found → position p xs ≡ Some place
    by_found None is = absurd (let none = position_none p xs is place d within in true_false here none)
      where
        true_false : {b : Bool} → b ≡ true → b ≡ false → ⊥
        true_false t f = cc
    by_found (Some i) is = is ∙ ap (λ (n : ℕ). Some n) same
      where
        facts : (i < length xs) × (p (get_or xs i d) ≡ true) × ((k : ℕ) → k < i → p (get_or xs k d) ≡ false)
        facts = position-Some p xs i d is

        not_both : {b : Bool} → b ≡ true → b ≡ false → ⊥
        not_both t f = cc

        same : i ≡ place
        same = elim (cases_lt i place) [
          | inl low ↦ absurd (not_both facts.1 (before i low))
          | inr high ↦ (elim (cases_lt place i) [
            | inl lower ↦ absurd (not_both here (facts.2 place lower))
            | inr other ↦ omega arith
          ])
        ]

pub none_is : {X : Type 0} (p : X → Bool) (xs : List X) (d : X) → ((k : ℕ) → k < length xs → p (get_or xs k d) ≡ false) → position p xs ≡ None
none_is p xs d before = by_found (position p xs) refl
  where
    by_found : (found : Option ℕ) → position p xs ≡ found → position p xs ≡ None
    by_found None is = is
    by_found (Some i) is = absurd (not_both (position-Some p xs i d is).1 (before i (position-Some p xs i d is).0))
      where
        not_both : {b : Bool} → b ≡ true → b ≡ false → ⊥
        not_both t f = cc
