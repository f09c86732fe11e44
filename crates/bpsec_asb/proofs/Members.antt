-- What stands in lists.
use Rattle.std.proofs.Common.{◌≡◌, ℕ, zero, suc, ◌<◌, inl, inr, ◌⊎◌, Bool, true, false, cond, ◌||◌, List, [], ◌∷◌, ◌++◌, length, map, get_or, refl, sym, ◌∙◌, ap, arith}
use Rattle.std.specs.Prelude.{Contains, filter, fold}
use Rattle.std.specs.List.{flat_map, list_any}
use Rattle.std.specs.declared.cmp.Ordering.{Ordering}
use Rattle.std.specs.declared.cmp.Ordering.TheVariants.{Less, Equal, Greater}
use Rattle.std.specs.Ordering.{match_ordering}
use Rattle.std.specs.BTreeSet.{insert_key}
use Rattle.std.proofs.lemmas.Map.Lookups.{CmpEqualImpliesEq}

abbrev pub Among : {A : Type 0} → A → List A → Type 0
Among x [] = ⊥
Among x (y ∷ ys) = (y ≡ x) ⊎ Among x ys

among_at : {A : Type 0} (xs : List A) (x : A) (k : ℕ) → k < length xs → get_or xs k x ≡ x → Among x xs
among_at [] x k lt e = absurd (omega arith)
among_at (y ∷ ys) x zero lt e = inl e
among_at (y ∷ ys) x (suc k) lt e = inr (among_at ys x k (omega arith) e)

pub among : {A : Type 0} (xs : List A) (x : A) → Contains xs x → Among x xs
among xs x (k, lt, e) = among_at xs x k lt e

pub contains : {A : Type 0} (xs : List A) (x : A) → Among x xs → Contains xs x
contains [] x h = elim h [ ]
contains (y ∷ ys) x (inl e) = (0, omega arith, e)
contains (y ∷ ys) x (inr h) = let c = contains ys x h in (suc c.0, omega (arith, c.1), c.2)

-- ---- lists made of lists

pub among-left : {A : Type 0} (xs ys : List A) (x : A) → Among x xs → Among x (xs ++ ys)
among-left [] ys x h = elim h [ ]
among-left (y ∷ xs) ys x (inl e) = inl e
among-left (y ∷ xs) ys x (inr h) = inr (among-left xs ys x h)

pub among-right : {A : Type 0} (xs ys : List A) (x : A) → Among x ys → Among x (xs ++ ys)
among-right [] ys x h = h
among-right (y ∷ xs) ys x h = inr (among-right xs ys x h)

pub among-append : {A : Type 0} (xs ys : List A) (x : A) → Among x (xs ++ ys) → Among x xs ⊎ Among x ys
among-append [] ys x h = inr h
among-append (y ∷ xs) ys x (inl e) = inl (inl e)
among-append (y ∷ xs) ys x (inr h) = elim (among-append xs ys x h) [ inl a ↦ inl (inr a) | inr b ↦ inr b ]

pub among-map : {A B : Type 0} (f : A → B) (xs : List A) (x : A) (y : B) → Among x xs → f x ≡ y → Among y (map f xs)
among-map f [] x y h is = elim h [ ]
among-map f (z ∷ zs) x y (inl e) is = inl (ap f e ∙ is)
among-map f (z ∷ zs) x y (inr h) is = inr (among-map f zs x y h is)

pub from-map : {A B : Type 0} (f : A → B) (xs : List A) (y : B) → Among y (map f xs) → (x : A) × Among x xs × (f x ≡ y)
from-map f [] y h = elim h [ ]
from-map f (z ∷ zs) y (inl e) = (z, inl refl, e)
from-map f (z ∷ zs) y (inr h) = let r = from-map f zs y h in (r.0, inr r.1, r.2)

pub among-flat_map : {A B : Type 0} (f : A → List B) (xs : List A) (x : A) (y : B) → Among x xs → Among y (f x) → Among y (flat_map f xs)
among-flat_map f [] x y there h = elim there [ ]
among-flat_map f (z ∷ zs) x y (inl e) h = among-left (f z) (flat_map f zs) y (rw e h)
among-flat_map f (z ∷ zs) x y (inr there) h = among-right (f z) (flat_map f zs) y (among-flat_map f zs x y there h)

pub from-flat_map : {A B : Type 0} (f : A → List B) (xs : List A) (y : B) → Among y (flat_map f xs) → (x : A) × Among x xs × Among y (f x)
from-flat_map f [] y h = elim h [ ]
from-flat_map f (z ∷ zs) y h = elim (among-append (f z) (flat_map f zs) y h) [ inl here ↦ (z, inl refl, here) | inr there ↦ let r = from-flat_map f zs y there in (r.0, inr r.1, r.2) ]

kept_head : {A : Type 0} (p : A → Bool) (z : A) (zs : List A) (x : A) (b : Bool) → p z ≡ b → z ≡ x → p x ≡ true → Among x (cond b (z ∷ filter p zs) (filter p zs))
kept_head p z zs x true is e passes = inl e
kept_head p z zs x false is e passes = absurd (let same : p z ≡ true = ap p e ∙ passes in cc)

kept_tail : {A : Type 0} (p : A → Bool) (z : A) (zs : List A) (x : A) (b : Bool) → Among x (filter p zs) → Among x (cond b (z ∷ filter p zs) (filter p zs))
kept_tail p z zs x true h = inr h
kept_tail p z zs x false h = h

pub among-filter : {A : Type 0} (p : A → Bool) (xs : List A) (x : A) → Among x xs → p x ≡ true → Among x (filter p xs)
among-filter p [] x h passes = elim h [ ]
among-filter p (z ∷ zs) x (inl e) passes = kept_head p z zs x (p z) refl e passes
among-filter p (z ∷ zs) x (inr h) passes = kept_tail p z zs x (p z) (among-filter p zs x h passes)

pub from-filter : {A : Type 0} (p : A → Bool) (xs : List A) (x : A) → Among x (filter p xs) → Among x xs × (p x ≡ true)
from-filter p [] x h = absurd h
from-filter p (z ∷ zs) x h = from_kept p z zs x (p z) refl (λ there. from-filter p zs x there) h
  where
    from_kept : {A : Type 0} (p : A → Bool) (z : A) (zs : List A) (x : A) (b : Bool) → p z ≡ b → (Among x (filter p zs) → Among x zs × (p x ≡ true)) → Among x (cond b (z ∷ filter p zs) (filter p zs)) → Among x (z ∷ zs) × (p x ≡ true)
    from_kept p z zs x true is others (inl e) = (inl e, sym (ap p e) ∙ is)
    from_kept p z zs x true is others (inr there) = let r = others there in (inr r.0, r.1)
    from_kept p z zs x false is others there = let r = others there in (inr r.0, r.1)

either : (a b : Bool) → (a || b) ≡ true → (a ≡ true) ⊎ (b ≡ true)
either true b e = inl refl
either false b e = inr e

pub from-any : {A : Type 0} (p : A → Bool) (xs : List A) → list_any p xs ≡ true → (x : A) × Among x xs × (p x ≡ true)
from-any p [] e = absurd cc
from-any p (z ∷ zs) e = elim (either (p z) (list_any p zs) e) [ inl here ↦ (z, inl refl, here) | inr there ↦ let r = from-any p zs there in (r.0, inr r.1, r.2) ]

pub any-from : {A : Type 0} (p : A → Bool) (xs : List A) (x : A) → Among x xs → p x ≡ true → list_any p xs ≡ true
any-from p [] x h passes = elim h [ ]
any-from p (z ∷ zs) x (inl e) passes = rw (ap p e ∙ passes) refl
any-from p (z ∷ zs) x (inr h) passes = or_true (p z) (list_any p zs) (any-from p zs x h passes)
  where
    or_true : (a b : Bool) → b ≡ true → (a || b) ≡ true
    or_true true b e = refl
    or_true false b e = e

-- ---- sets in order

placed : {A : Type 0} (cmp : A → A → Ordering) (k z : A) (zs : List A) (x : A) (o : Ordering) → Among x (match_ordering o (k ∷ z ∷ zs) (z ∷ zs) (z ∷ insert_key cmp zs k)) → (Among x (insert_key cmp zs k) → (k ≡ x) ⊎ Among x zs) → (k ≡ x) ⊎ Among x (z ∷ zs)
placed cmp k z zs x Less (inl e) more = inl e
placed cmp k z zs x Less (inr h) more = inr h
placed cmp k z zs x Equal h more = inr h
placed cmp k z zs x Greater (inl e) more = inr (inl e)
placed cmp k z zs x Greater (inr h) more = elim (more h) [ inl e ↦ inl e | inr there ↦ inr (inr there) ]

from-insert : {A : Type 0} (cmp : A → A → Ordering) (ks : List A) (k x : A) → Among x (insert_key cmp ks k) → (k ≡ x) ⊎ Among x ks
from-insert cmp [] k x (inl e) = inl e
from-insert cmp [] k x (inr h) = absurd h
from-insert cmp (z ∷ zs) k x h = placed cmp k z zs x (cmp k z) h (λ there. from-insert cmp zs k x there)

kept : {A : Type 0} (cmp : A → A → Ordering) (k z : A) (zs : List A) (x : A) (o : Ordering) → Among x (z ∷ zs) → (Among x zs → Among x (insert_key cmp zs k)) → Among x (match_ordering o (k ∷ z ∷ zs) (z ∷ zs) (z ∷ insert_key cmp zs k))
kept cmp k z zs x Less h more = inr h
kept cmp k z zs x Equal h more = h
kept cmp k z zs x Greater (inl e) more = inl e
kept cmp k z zs x Greater (inr h) more = inr (more h)

insert-others : {A : Type 0} (cmp : A → A → Ordering) (ks : List A) (k x : A) → Among x ks → Among x (insert_key cmp ks k)
insert-others cmp [] k x h = elim h [ ]
insert-others cmp (z ∷ zs) k x h = kept cmp k z zs x (cmp k z) h (λ there. insert-others cmp zs k x there)

there_now : {A : Type 0} (cmp : A → A → Ordering) (exact : CmpEqualImpliesEq cmp) (k z : A) (zs : List A) (o : Ordering) → cmp k z ≡ o → Among k (insert_key cmp zs k) → Among k (match_ordering o (k ∷ z ∷ zs) (z ∷ zs) (z ∷ insert_key cmp zs k))
there_now cmp exact k z zs Less is more = inl refl
there_now cmp exact k z zs Equal is more = inl (sym (exact k z is))
there_now cmp exact k z zs Greater is more = inr more

insert-itself : {A : Type 0} (cmp : A → A → Ordering) (exact : CmpEqualImpliesEq cmp) (ks : List A) (k : A) → Among k (insert_key cmp ks k)
insert-itself cmp exact [] k = inl refl
insert-itself cmp exact (z ∷ zs) k = there_now cmp exact k z zs (cmp k z) refl (insert-itself cmp exact zs k)

pub from-set : {A : Type 0} (cmp : A → A → Ordering) (xs start : List A) (x : A) → Among x (fold (insert_key cmp) start xs) → Among x start ⊎ Among x xs
from-set cmp [] start x h = inl h
from-set cmp (y ∷ ys) start x h =
    elim (from-set cmp ys (insert_key cmp start y) x h) [
      | inl before ↦ elim (from-insert cmp start y x before) [ inl e ↦ inr (inl e) | inr there ↦ inl there ]
      | inr later ↦ inr (inr later)
    ]

pub set-start : {A : Type 0} (cmp : A → A → Ordering) (xs start : List A) (x : A) → Among x start → Among x (fold (insert_key cmp) start xs)
set-start cmp [] start x h = h
set-start cmp (y ∷ ys) start x h = set-start cmp ys (insert_key cmp start y) x (insert-others cmp start y x h)

pub among-set : {A : Type 0} (cmp : A → A → Ordering) (exact : CmpEqualImpliesEq cmp) (xs start : List A) (x : A) → Among x xs → Among x (fold (insert_key cmp) start xs)
among-set cmp exact [] start x h = elim h [ ]
among-set cmp exact (y ∷ ys) start x (inl e) = set-start cmp ys (insert_key cmp start y) x (rw (← e) (insert-itself cmp exact start y))
among-set cmp exact (y ∷ ys) start x (inr h) = among-set cmp exact ys (insert_key cmp start y) x h
