-- The keys that are found in a ring.
use Rattle.std.proofs.Common.{◌≡◌, ℕ, zero, suc, Bool, true, false, not, ◌||◌, cond, List, [], ◌∷◌, map, Some, refl, sym, ◌∙◌, ap}
use Rattle.std.specs.Prelude.{find, slice_get, option_map}
use Rattle.std.specs.Str.{bytes_eq}
use Rattle.std.proofs.lemmas.Bool.{false≢true}
use Rattle.std.proofs.lemmas.Slice.Eq.{bytes_eq-Decides}
use Rattle.bp_text.specs.Shape.{is_listed}
use Rattle.bpsec_policy.specs.declared.ring.NamedKey.{NamedKey}
use Rattle.bpsec_policy.specs.Names.{all_differ}
use Rattle.bpsec_policy.specs.Ring.{key_of}
use Rattle.bpsec_policy.proofs.Steps.{both_true}

-- a name that is in the list is listed
listed_at : (keys : List NamedKey) (i : ℕ) (k : NamedKey) → slice_get keys i ≡ Some k → is_listed (map (λ (x : NamedKey). x.name) keys) k.name ≡ true
listed_at [] i k e = absurd cc
listed_at (x ∷ keys) zero k e = let same : x ≡ k = cc in rw (same, (bytes_eq-Decides k.name k.name).1 refl) refl
listed_at (x ∷ keys) (suc i) k e = or_true (bytes_eq x.name k.name) _ (listed_at keys i k e)
  where
    or_true : (a b : Bool) → b ≡ true → (a || b) ≡ true
    or_true true b h = refl
    or_true false b h = h

not_true : (b : Bool) → not b ≡ true → b ≡ false
not_true true e = absurd cc
not_true false e = refl

pub is_found : (keys : List NamedKey) (i : ℕ) (k : NamedKey) → all_differ (map (λ (x : NamedKey). x.name) keys) ≡ true → slice_get keys i ≡ Some k → key_of keys k.name ≡ Some k.key
is_found [] i k differ e = absurd cc
is_found (x ∷ keys) zero k differ e = let same : x ≡ k = cc in rw (same, (bytes_eq-Decides k.name k.name).1 refl) refl
is_found (x ∷ keys) (suc i) k differ e =
    let parts = both_true (not (is_listed (map (λ (y : NamedKey). y.name) keys) x.name)) _ differ in
    go (bytes_eq x.name k.name) refl (not_true _ parts.0) (is_found keys i k parts.1 e)
  where
    go : (b : Bool) → bytes_eq x.name k.name ≡ b → is_listed (map (λ (y : NamedKey). y.name) keys) x.name ≡ false → key_of keys k.name ≡ Some k.key
        → option_map (λ (y : NamedKey). y.key) (cond b (Some x) (find (λ (y : NamedKey). bytes_eq y.name k.name) keys)) ≡ Some k.key
    go true is free rest =
        let same : x.name ≡ k.name = (bytes_eq-Decides x.name k.name).0 is in
        absurd (false≢true (sym free ∙ (ap (is_listed (map (λ (y : NamedKey). y.name) keys)) same ∙ listed_at keys i k e)))
    go false is free rest = rest

pub found_means : (keys : List NamedKey) (name key : List ℕ) → key_of keys name ≡ Some key → (i : ℕ) × (slice_get keys i ≡ Some (record { name = name; key = key }))
found_means [] name key e = absurd cc
found_means (x ∷ keys) name key e = go (bytes_eq x.name name) refl (λ f. found_means keys name key f) e
  where
    go : (b : Bool) → bytes_eq x.name name ≡ b → (key_of keys name ≡ Some key → (i : ℕ) × (slice_get keys i ≡ Some (record { name = name; key = key })))
        → option_map (λ (y : NamedKey). y.key) (cond b (Some x) (find (λ (y : NamedKey). bytes_eq y.name name) keys)) ≡ Some key
        → (i : ℕ) × (slice_get (x ∷ keys) i ≡ Some (record { name = name; key = key }))
    go true is later f =
        let named : x.name ≡ name = (bytes_eq-Decides x.name name).0 is in
        let keyed : x.key ≡ key = cc in
        (zero, rw (← named, ← keyed) refl)
    go false is later f = let w = later f in (suc w.0, w.1)
