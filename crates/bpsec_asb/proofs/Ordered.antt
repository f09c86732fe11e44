-- The order of operations, and sets in it.
use Rattle.std.proofs.Common.{◌≡◌, ℕ, List, [], ◌∷◌, inl, inr, refl, sym, ◌∙◌, ap, subst, rules}
use Rattle.std.specs.Prelude.{fold}
use Rattle.std.specs.List.{AllByRecursion}
use Rattle.std.specs.List.Sorted.{IsStrictlySortedBy}
use Rattle.std.specs.Cmp.{IsTotalOrder}
use Rattle.std.specs.Cmp.Rules.{comparing}
use Rattle.std.specs.declared.cmp.Ordering.{Ordering}
use Rattle.std.specs.declared.cmp.Ordering.TheVariants.{Less, Equal, Greater}
use Rattle.std.specs.Ordering.{match_ordering, nat_cmp, ordering_then, ordering_reverse}
use Rattle.std.specs.BTreeSet.{insert_key}
use Rattle.std.proofs.lemmas.Cmp.{tied_itself}
use Rattle.std.proofs.lemmas.Map.Lookups.{CmpEqualImpliesEq, exact_unsigned}
use Rattle.bpsec_asb.specs.declared.operation.Service.{Service}
use Rattle.bpsec_asb.specs.declared.operation.Service.TheVariants.{Bib, Bcb}
use Rattle.bpsec_asb.specs.Order.{rank, op_cmp}
use Rattle.bpsec_asb.proofs.Members.{Among}

-- ---- operations

both_equal : (o p : Ordering) → ordering_then o p ≡ Equal → (o ≡ Equal) × (p ≡ Equal)
both_equal Less p e = absurd cc
both_equal Equal p e = (refl, e)
both_equal Greater p e = absurd cc

same_service : (a b : Service) → rank a ≡ rank b → a ≡ b
same_service Bib Bib e = refl
same_service Bib Bcb e = absurd cc
same_service Bcb Bib e = absurd cc
same_service Bcb Bcb e = refl

pub op_cmp_exact : CmpEqualImpliesEq op_cmp
op_cmp_exact a b e =
    let first = both_equal (nat_cmp (rank a.service) (rank b.service)) (ordering_then (nat_cmp a.block b.block) (nat_cmp a.target b.target)) e in
    let second = both_equal (nat_cmp a.block b.block) (nat_cmp a.target b.target) first.1 in
    let service : a.service ≡ b.service = same_service a.service b.service (exact_unsigned _ _ first.0) in
    let block : a.block ≡ b.block = exact_unsigned _ _ second.0 in
    let target : a.target ≡ b.target = exact_unsigned _ _ second.1 in
    ap (λ (s : Service). record { service = s; block = a.block; target = a.target }) service
    ∙ ap (λ (n : ℕ). record { service = b.service; block = n; target = a.target }) block
    ∙ ap (λ (n : ℕ). record { service = b.service; block = b.block; target = n }) target

pub op_cmp_total : IsTotalOrder op_cmp
op_cmp_total = search (comparing, rules)

-- ---- sets in order

abbrev Each : {A : Type 0} → (A → Type 0) → List A → Type 0
Each P xs = AllByRecursion P xs

each_weaker : {A : Type 0} (P Q : A → Type 0) → ((x : A) → P x → Q x) → (xs : List A) → Each P xs → Each Q xs
each_weaker P Q weaker [] h = tt
each_weaker P Q weaker (x ∷ xs) h = (weaker x h.0, each_weaker P Q weaker xs h.1)

each_placed : {A : Type 0} (cmp : A → A → Ordering) (P : A → Type 0) (k z : A) (zs : List A) (o : Ordering) → P k → Each P (z ∷ zs) → Each P (insert_key cmp zs k) → Each P (match_ordering o (k ∷ z ∷ zs) (z ∷ zs) (z ∷ insert_key cmp zs k))
each_placed cmp P k z zs Less new old more = (new, old)
each_placed cmp P k z zs Equal new old more = old
each_placed cmp P k z zs Greater new old more = (old.0, more)

each_insert : {A : Type 0} (cmp : A → A → Ordering) (P : A → Type 0) (ks : List A) (k : A) → P k → Each P ks → Each P (insert_key cmp ks k)
each_insert cmp P [] k new old = (new, tt)
each_insert cmp P (z ∷ zs) k new old = each_placed cmp P k z zs (cmp k z) new old (each_insert cmp P zs k new old.1)

sorted_placed : {A : Type 0} (cmp : A → A → Ordering) (total : IsTotalOrder cmp) (k z : A) (zs : List A) (o : Ordering) → cmp k z ≡ o → IsStrictlySortedBy cmp (z ∷ zs) → IsStrictlySortedBy cmp (insert_key cmp zs k)
    → IsStrictlySortedBy cmp (match_ordering o (k ∷ z ∷ zs) (z ∷ zs) (z ∷ insert_key cmp zs k))
unfolding IsStrictlySortedBy
sorted_placed cmp total k z zs Less is sorted more = ((is, each_weaker (λ y. cmp z y ≡ Less) (λ y. cmp k y ≡ Less) (λ y less. total.trans k z y is less) zs sorted.0), sorted)
sorted_placed cmp total k z zs Equal is sorted more = sorted
sorted_placed cmp total k z zs Greater is sorted more =
    let less : cmp z k ≡ Less = total.antisymm z k ∙ ap ordering_reverse is in
    (each_insert cmp (λ y. cmp z y ≡ Less) zs k less sorted.0, more)

sorted_insert : {A : Type 0} (cmp : A → A → Ordering) (total : IsTotalOrder cmp) (ks : List A) (k : A) → IsStrictlySortedBy cmp ks → IsStrictlySortedBy cmp (insert_key cmp ks k)
unfolding IsStrictlySortedBy
sorted_insert cmp total [] k sorted = (tt, tt)
sorted_insert cmp total (z ∷ zs) k sorted = sorted_placed cmp total k z zs (cmp k z) refl sorted (sorted_insert cmp total zs k sorted.1)

pub sorted_set : {A : Type 0} (cmp : A → A → Ordering) (total : IsTotalOrder cmp) (xs start : List A) → IsStrictlySortedBy cmp start → IsStrictlySortedBy cmp (fold (insert_key cmp) start xs)
sorted_set cmp total [] start sorted = sorted
sorted_set cmp total (x ∷ xs) start sorted = sorted_set cmp total xs (insert_key cmp start x) (sorted_insert cmp total start x sorted)

pub sorted_none : {A : Type 0} (cmp : A → A → Ordering) → IsStrictlySortedBy cmp []
unfolding IsStrictlySortedBy
sorted_none cmp = tt

-- ---- lists in order with the same members

each_among : {A : Type 0} (P : A → Type 0) (xs : List A) (x : A) → Each P xs → Among x xs → P x
each_among P [] x h there = elim there [ ]
each_among P (y ∷ ys) x h (inl e) = subst P e h.0
each_among P (y ∷ ys) x h (inr there) = each_among P ys x h.1 there

not_below_itself : {A : Type 0} (cmp : A → A → Ordering) (total : IsTotalOrder cmp) (x : A) → cmp x x ≡ Less → ⊥
not_below_itself cmp total x less = let e : Equal ≡ Less = sym (tied_itself total x) ∙ less in cc

abbrev Within : {A : Type 0} → List A → List A → Type 0
Within {A} xs ys = (x : A) → Among x xs → Among x ys

-- the first of two lists in order
same_first : {A : Type 0} (cmp : A → A → Ordering) (total : IsTotalOrder cmp) (x y : A) (xs ys : List A) → IsStrictlySortedBy cmp (x ∷ xs) → IsStrictlySortedBy cmp (y ∷ ys) → Among x (y ∷ ys) → Among y (x ∷ xs) → x ≡ y
unfolding IsStrictlySortedBy
same_first cmp total x y xs ys sx sy (inl e) hy = sym e
same_first cmp total x y xs ys sx sy (inr hx) (inl e) = e
same_first cmp total x y xs ys sx sy (inr hx) (inr hy) =
    let below : cmp y x ≡ Less = each_among (λ z. cmp y z ≡ Less) ys x sy.0 hx in
    let above : cmp x y ≡ Less = each_among (λ z. cmp x z ≡ Less) xs y sx.0 hy in
    let e : Less ≡ Greater = sym above ∙ (total.antisymm x y ∙ ap ordering_reverse below) in
    absurd cc

-- what stands behind the first stands behind the same first
behind : {A : Type 0} (cmp : A → A → Ordering) (total : IsTotalOrder cmp) (x y : A) (xs ys : List A) → IsStrictlySortedBy cmp (x ∷ xs) → x ≡ y → Within (x ∷ xs) (y ∷ ys) → Within xs ys
unfolding IsStrictlySortedBy
behind cmp total x y xs ys sx same within z there =
    elim (within z (inr there)) [
      | inl e ↦ absurd (not_below_itself cmp total x (subst (λ w. cmp x w ≡ Less) (sym (same ∙ e)) (each_among (λ w. cmp x w ≡ Less) xs z sx.0 there)))
      | inr h ↦ h
    ]

pub same_sorted : {A : Type 0} (cmp : A → A → Ordering) (total : IsTotalOrder cmp) (xs ys : List A) → IsStrictlySortedBy cmp xs → IsStrictlySortedBy cmp ys → Within xs ys → Within ys xs → xs ≡ ys
unfolding IsStrictlySortedBy
same_sorted cmp total [] [] sx sy to from = refl
same_sorted cmp total [] (y ∷ ys) sx sy to from = absurd (from y (inl refl))
same_sorted cmp total (x ∷ xs) [] sx sy to from = absurd (to x (inl refl))
same_sorted cmp total (x ∷ xs) (y ∷ ys) sx sy to from =
    let same = same_first cmp total x y xs ys sx sy (to x (inl refl)) (from y (inl refl)) in
    let others = same_sorted cmp total xs ys sx.1 sy.1 (behind cmp total x y xs ys sx same to) (behind cmp total y x ys xs sy (sym same) from) in
    ap (λ z. z ∷ xs) same ∙ ap (λ zs. y ∷ zs) others
