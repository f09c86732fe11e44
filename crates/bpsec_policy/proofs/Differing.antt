-- Names that differ.
use Rattle.std.proofs.Common.{◌≡◌, ℕ, Bool, true, false, not, ◌||◌, List, [], ◌∷◌, ◌++◌, Option, Some, None, refl, sym}
use Rattle.std.specs.List.{IsDistinct, AllByRecursion}
use Rattle.std.specs.Str.{bytes_eq}
use Rattle.std.proofs.lemmas.Map.Keys.{IsDistinct-head, IsDistinct-tail}
use Rattle.std.proofs.lemmas.Slice.Eq.{bytes_eq-Decides}
use Rattle.serde_json.specs.Data.{Data}
use Rattle.bp_text.specs.Shape.{is_listed}
use Rattle.bp_text.specs.Entries.{name_of, taking, taken_by, names_of}
use Rattle.bpsec_policy.specs.Names.{all_differ}
use Rattle.bpsec_policy.proofs.Steps.{both_true, and_true}

differs : (x y : List ℕ) (b : Bool) → bytes_eq x y ≡ b → bytes_eq y x ≡ false → b ≡ false
differs x y true e other =
    let same : x ≡ y = (bytes_eq-Decides x y).0 e in
    let back : bytes_eq y x ≡ true = (bytes_eq-Decides y x).1 (sym same) in
    absurd cc
differs x y false e other = refl

unlisted : (name : List ℕ) (names : List (List ℕ)) → AllByRecursion (λ n. bytes_eq name n ≡ false) names → is_listed names name ≡ false
unlisted name [] h = refl
unlisted name (n ∷ names) h = rw (differs n name (bytes_eq n name) refl h.0, unlisted name names h.1) refl

pub all_differ-IsDistinct : (names : List (List ℕ)) → IsDistinct bytes_eq names → all_differ names ≡ true
all_differ-IsDistinct [] h = refl
all_differ-IsDistinct (n ∷ names) h =
    let free : is_listed names n ≡ false = unlisted n names (IsDistinct-head bytes_eq n names h) in
    rw free (all_differ-IsDistinct names (IsDistinct-tail bytes_eq n names h))

-- ---- two lists of names

-- none of these is among those
abbrev pub AreFree : List (List ℕ) → List (List ℕ) → Type 0
AreFree taken names = AllByRecursion (λ name. is_listed taken name ≡ false) names

neither : (a b : Bool) → (a || b) ≡ false → (a ≡ false) × (b ≡ false)
neither true b e = absurd cc
neither false b e = (refl, e)

or_false : (a b : Bool) → a ≡ false → b ≡ false → (a || b) ≡ false
or_false a b h k = rw (h, k) refl

not_false : (b : Bool) → b ≡ false → not b ≡ true
not_false b h = rw h refl

not_true : (b : Bool) → not b ≡ true → b ≡ false
not_true true e = absurd cc
not_true false e = refl

-- the names differ from the first, and from the others
apart : (name : List ℕ) (taken names : List (List ℕ)) → AreFree (name ∷ taken) names → AllByRecursion (λ n. bytes_eq name n ≡ false) names × AreFree taken names
apart name taken [] h = (tt, tt)
apart name taken (n ∷ names) h =
    let a = neither (bytes_eq name n) (is_listed taken n) h.0 in
    let b = apart name taken names h.1 in
    ((a.0, b.0), (a.1, b.1))

listed-append : (xs ys : List (List ℕ)) (n : List ℕ) → is_listed xs n ≡ false → is_listed ys n ≡ false → is_listed (xs ++ ys) n ≡ false
listed-append [] ys n h k = k
listed-append (x ∷ xs) ys n h k =
    let a = neither (bytes_eq x n) (is_listed xs n) h in
    or_false (bytes_eq x n) (is_listed (xs ++ ys) n) a.0 (listed-append xs ys n a.1 k)

pub all_differ-append : (xs ys : List (List ℕ)) → AreFree xs ys → all_differ xs ≡ true → all_differ ys ≡ true → all_differ (xs ++ ys) ≡ true
all_differ-append [] ys free h k = k
all_differ-append (x ∷ xs) ys free h k =
    let parts = apart x xs ys free in
    let a = both_true (not (is_listed xs x)) (all_differ xs) h in
    let other = listed-append xs ys x (not_true _ a.0) (unlisted x ys parts.0) in
    and_true (not (is_listed (xs ++ ys) x)) (all_differ (xs ++ ys)) (not_false _ other) (all_differ-append xs ys parts.1 a.1 k)

-- both parts are free of what the whole is free of
free_append : (taken xs ys : List (List ℕ)) → AreFree taken xs → AreFree taken ys → AreFree taken (xs ++ ys)
free_append taken [] ys h k = k
free_append taken (x ∷ xs) ys h k = (h.0, free_append taken xs ys h.1 k)

-- ---- names taken by entries

later : (name : Option (List ℕ)) (taken names : List (List ℕ)) (n : List ℕ) → is_listed (taking name taken) n ≡ false → is_listed names n ≡ false
    → (is_listed (taking name names) n ≡ false) × (is_listed taken n ≡ false)
later None taken names n h k = (k, h)
later (Some name) taken names n h k =
    let a = neither (bytes_eq name n) (is_listed taken n) h in
    (or_false (bytes_eq name n) (is_listed names n) a.0 k, a.1)

taken_free : (taken : List (List ℕ)) (ds : List Data) (n : List ℕ) → is_listed (taken_by taken ds) n ≡ false → (is_listed (names_of ds) n ≡ false) × (is_listed taken n ≡ false)
taken_free taken [] n h = (refl, h)
taken_free taken (d ∷ ds) n h =
    let a = taken_free (taking (name_of d) taken) ds n h in
    later (name_of d) taken (names_of ds) n a.1 a.0

free_of_both : (taken : List (List ℕ)) (ds : List Data) (names : List (List ℕ)) → AreFree (taken_by taken ds) names → AreFree (names_of ds) names × AreFree taken names
free_of_both taken ds [] h = (tt, tt)
free_of_both taken ds (n ∷ names) h =
    let a = taken_free taken ds n h.0 in
    let b = free_of_both taken ds names h.1 in
    ((a.0, b.0), (a.1, b.1))

-- the names of two lists of entries, the second free of those of the first, all free of those before
pub all_differ-both : (before : List (List ℕ)) (ds es : List Data) → all_differ before ≡ true → IsDistinct bytes_eq (names_of ds) → IsDistinct bytes_eq (names_of es)
    → AreFree before (names_of ds) → AreFree (taken_by before ds) (names_of es) → all_differ (before ++ (names_of ds ++ names_of es)) ≡ true
all_differ-both before ds es own first second free later_free =
    let both = free_of_both before ds (names_of es) later_free in
    let inner = all_differ-append (names_of ds) (names_of es) both.0 (all_differ-IsDistinct (names_of ds) first) (all_differ-IsDistinct (names_of es) second) in
    all_differ-append before (names_of ds ++ names_of es) (free_append before (names_of ds) (names_of es) free both.1) own inner
