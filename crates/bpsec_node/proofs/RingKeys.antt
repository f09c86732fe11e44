-- Keys of a ring are short.
use Rattle.std.proofs.Common.{◌≡◌, ℕ, ◌≤◌, ◌^◌, inl, inr, Bool, true, ◌&&◌, leb, List, [], ◌∷◌, length, Option, Some, None, refl, sym, ◌∙◌, ap, arith}
use Rattle.std.specs.Prelude.{find, option_map}
use Rattle.std.specs.List.{list_all}
use Rattle.std.specs.Str.{bytes_eq}
use Rattle.std.proofs.lemmas.Bool.{leb-true}
use Rattle.bpsec_asb.proofs.Members.{Among}
use Rattle.bpsec_policy.specs.declared.ring.NamedKey.{NamedKey}
use Rattle.bp_text.specs.Shape.{is_name}
use Rattle.bpsec_policy.specs.Ring.{is_named_key, is_ring, key_of}
use Rattle.bpsec_node.proofs.Members.{both, found}

all_pass : {A : Type 0} (p : A → Bool) (xs : List A) (x : A) → list_all p xs ≡ true → Among x xs → p x ≡ true
all_pass p [] x e there = elim there [ ]
all_pass p (y ∷ ys) x e (inl is) = ap p (sym is) ∙ (both (p y) (list_all p ys) e).0
all_pass p (y ∷ ys) x e (inr there) = all_pass p ys x (both (p y) (list_all p ys) e).1 there

all_named : (keys : List NamedKey) → is_ring keys ≡ true → list_all is_named_key keys ≡ true
unfolding is_ring
all_named keys e = (both (list_all is_named_key keys) _ (both (leb (length keys) 256) _ e).1).0

key_length : (k : NamedKey) → is_named_key k ≡ true → length k.key ≤ 64
key_length k e = leb-true (length k.key) 64 (both (leb 16 (length k.key)) (leb (length k.key) 64) (both (is_name k.name) (leb 16 (length k.key) && leb (length k.key) 64) e).1).1

found_short : (keys : List NamedKey) (name key : List ℕ) (o : Option NamedKey) → is_ring keys ≡ true → find (λ (k : NamedKey). bytes_eq k.name name) keys ≡ o → option_map (λ (k : NamedKey). k.key) o ≡ Some key → length key ≤ 2 ^ 32
found_short keys name key None ring is e = absurd cc
found_short keys name key (Some k) ring is e =
    let at = found (λ (k : NamedKey). bytes_eq k.name name) keys k is in
    let short = key_length k (all_pass is_named_key keys k (all_named keys ring) at.0) in
    let same : k.key ≡ key = cc in
    omega (arith, short, ap (λ (x : List ℕ). length x) same)

pub ring_short : (keys : List NamedKey) (name key : List ℕ) → is_ring keys ≡ true → key_of keys name ≡ Some key → length key ≤ 2 ^ 32
ring_short keys name key ring e = found_short keys name key (find (λ (k : NamedKey). bytes_eq k.name name) keys) ring refl e
