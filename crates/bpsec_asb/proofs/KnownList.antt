-- The list that is made is that of the known operations.
use Rattle.std.proofs.Common.{◌≡◌, ℕ, ◌+◌, ◌<◌, inl, inr, Bool, true, false, cond, eqb, not, List, [], ◌∷◌, length, take, map, get_or, Result, Ok, Err, refl, sym, ◌∙◌, ap, subst}
use Rattle.std.specs.Prelude.{All, Contains, IfOk, filter, fold}
use Rattle.std.specs.List.Sorted.{IsStrictlySortedBy}
use Rattle.std.specs.List.{flat_map, list_any}
use Rattle.std.specs.BTreeSet as sets
use Rattle.std.specs.BTreeSet.{BTreeSet, insert_key}
use Rattle.std.specs.Ordering.{nat_cmp}
use Rattle.std.proofs.lemmas.Bool.{eqb-true, eq-eqb}
use Rattle.std.proofs.lemmas.Cmp.{nat_cmp_total}
use Rattle.std.proofs.lemmas.List.Elements.{All-contains, filter_agree, filter_more, All-append, All-cons, All-nil}
use Rattle.std.proofs.lemmas.List.Sums.{fold-append}
use Rattle.std.proofs.lemmas.Map.Lookups.{exact_unsigned}
use Rattle.std.proofs.lemmas.Map.Views.{btree_set_contains_iff}
use Rattle.bp_blocks.specs.declared.block.Block.{Block}
use Rattle.bpsec_asb.specs.declared.operation.Service.TheVariants.{Bib, Bcb}
use Rattle.bpsec_asb.specs.declared.operation.OpId.{OpId}
use Rattle.bpsec_asb.specs.Operations.{NumbersAreDistinct, BodiesAreBytes, IsKnown}
use Rattle.bpsec_asb.specs.Order.{op_cmp}
use Rattle.bpsec_asb.specs.Known.{held_by, ListsHeld, ciphers, untargeted, in_order, known}
use Rattle.bpsec_asb.proofs.Members.{Among, among, contains, among-map, from-map, from-any, any-from, from-filter, from-set, among-set}
use Rattle.bpsec_asb.proofs.Held.{all_members, lists_held}
use Rattle.bpsec_asb.proofs.KnownSet.{listed, Held, listed_means, listed_found}
use Rattle.bpsec_asb.proofs.Ordered.{op_cmp_exact, op_cmp_total, sorted_set, sorted_none}

-- its body is made of bytes
abbrev BytesOf : Block → Type 0
BytesOf block = (i : ℕ) → get_or block.body i 0 < 256

-- ---- the members

pub known_means : (blocks : List Block) → NumbersAreDistinct blocks → Held blocks → All (IsKnown blocks) (known blocks)
known_means blocks distinct held =
    all_members (IsKnown blocks) (known blocks) (λ op there. elim (from-set op_cmp (listed blocks) [] op there) [ inl none ↦ absurd none | inr h ↦ listed_means blocks op distinct held h ])

pub known_found : (blocks : List Block) (op : OpId) → All (ListsHeld Bcb) blocks → IsKnown blocks op → Contains (known blocks) op
known_found blocks op held known_op = contains (known blocks) op (among-set op_cmp op_cmp_exact (listed blocks) [] op (listed_found blocks op held known_op))

-- ---- the list that is made

abbrev Targeted : BTreeSet ℕ → List OpId → Type 0
Targeted targeted keys = targeted.keys ≡ fold (insert_key nat_cmp) [] (map (λ op. op.target) keys)

same_truth : (a b : Bool) → (a ≡ true → b ≡ true) → (b ≡ true → a ≡ true) → a ≡ b
same_truth true b to from = sym (to refl)
same_truth false true to from = from refl
same_truth false false to from = refl

target_found : (ops : List OpId) (targeted : BTreeSet ℕ) (number : ℕ) → Targeted targeted (in_order ops) → sets.contains nat_cmp targeted number ≡ true → list_any (λ op. eqb op.target number) ops ≡ true
target_found ops targeted number made e =
    let there : Among number targeted.keys = among targeted.keys number ((btree_set_contains_iff nat_cmp_total exact_unsigned targeted number).0 e) in
    let mapped : Among number (map (λ (op : OpId). op.target) (in_order ops)) = elim (from-set nat_cmp (map (λ (op : OpId). op.target) (in_order ops)) [] number (subst (Among number) made there)) [ inl none ↦ absurd none | inr h ↦ h ] in
    let op = from-map (λ (op : OpId). op.target) (in_order ops) number mapped in
    let listed_op : Among op.0 ops = elim (from-set op_cmp ops [] op.0 op.1) [ inl none ↦ absurd none | inr h ↦ h ] in
    any-from (λ o. eqb o.target number) ops op.0 listed_op (eq-eqb _ _ op.2)

found_target : (ops : List OpId) (targeted : BTreeSet ℕ) (number : ℕ) → Targeted targeted (in_order ops) → list_any (λ op. eqb op.target number) ops ≡ true → sets.contains nat_cmp targeted number ≡ true
found_target ops targeted number made e =
    let op = from-any (λ o. eqb o.target number) ops e in
    let ordered = among-set op_cmp op_cmp_exact ops [] op.0 op.1 in
    let mapped = among-map (λ (o : OpId). o.target) (in_order ops) op.0 number ordered (eqb-true _ _ op.2) in
    let there = among-set nat_cmp exact_unsigned (map (λ (o : OpId). o.target) (in_order ops)) [] number mapped in
    (btree_set_contains_iff nat_cmp_total exact_unsigned targeted number).1 (contains targeted.keys number (subst (Among number) (sym made) there))

pub same_visible : (blocks : List Block) (targeted : BTreeSet ℕ) → Targeted targeted (in_order (ciphers blocks))
    → filter (λ (block : Block). not (sets.contains nat_cmp targeted block.number)) blocks ≡ untargeted (ciphers blocks) blocks
same_visible blocks targeted made =
    filter_agree (λ (block : Block). not (sets.contains nat_cmp targeted block.number)) (λ (block : Block). not (list_any (λ op. eqb op.target block.number) (ciphers blocks)))
    (λ block. ap not (same_truth _ _ (target_found (ciphers blocks) targeted block.number made) (found_target (ciphers blocks) targeted block.number made))) blocks

pub is_known : (blocks : List Block) (targeted : BTreeSet ℕ) (first keys : List OpId) → first ≡ in_order (ciphers blocks) → Targeted targeted first
    → keys ≡ fold (insert_key op_cmp) first (flat_map (held_by Bib) (filter (λ (block : Block). not (sets.contains nat_cmp targeted block.number)) blocks)) → keys ≡ known blocks
is_known blocks targeted first keys start made all =
    let made' : Targeted targeted (in_order (ciphers blocks)) = subst (Targeted targeted) start made in
    all ∙ ap (λ l. fold (insert_key op_cmp) first (flat_map (held_by Bib) l)) (same_visible blocks targeted made')
    ∙ ap (λ l. fold (insert_key op_cmp) l (flat_map (held_by Bib) (untargeted (ciphers blocks) blocks))) start
    ∙ sym (fold-append (insert_key op_cmp) [] (ciphers blocks) (flat_map (held_by Bib) (untargeted (ciphers blocks) blocks)))

pub is_held : (blocks : List Block) (targeted : BTreeSet ℕ) (first : List OpId) → first ≡ in_order (ciphers blocks) → Targeted targeted first
    → All (ListsHeld Bcb) blocks → All (ListsHeld Bib) (filter (λ (block : Block). not (sets.contains nat_cmp targeted block.number)) blocks) → Held blocks
is_held blocks targeted first start made bcb bib = (bcb, subst (All (ListsHeld Bib)) (same_visible blocks targeted (subst (Targeted targeted) start made)) bib)

-- ---- as a loop goes over one block more

pub held-more : {A : Type 0} (P : A → Type 0) (p : A → Bool) (xs : List A) (i : ℕ) (d : A) → i < length xs → All P (filter p (take i xs)) → (p (get_or xs i d) ≡ true → P (get_or xs i d)) → All P (filter p (take (i + 1) xs))
held-more P p xs i d lt before here = rw (filter_more p xs i d lt) (All-append P (filter p (take i xs)) _ before (one (p (get_or xs i d)) refl))
  where
    one : (b : Bool) → p (get_or xs i d) ≡ b → All P (cond b (get_or xs i d ∷ []) [])
    one true is = All-cons P (get_or xs i d) [] (here is) (All-nil P)
    one false is = All-nil P

-- ---- what is answered

pub if_known : {E : Type 0} (P : List OpId → Type 0) (r : Result (List OpId) E) (keys all : List OpId) → IfOk r (λ list. list ≡ keys) → keys ≡ all → P all → IfOk r P
if_known P (Ok list) keys all is same holds = subst P (sym (is ∙ same)) holds
if_known P (Err e) keys all is same holds = tt

pub not_both : (found : Bool) → true ≡ found → not found ≡ true → ⊥
not_both true there passes = cc
not_both false there passes = cc

pub known_ordered : (blocks : List Block) → IsStrictlySortedBy op_cmp (known blocks)
known_ordered blocks = sorted_set op_cmp op_cmp_total (listed blocks) [] (sorted_none op_cmp)

-- ---- laws of the list

pub all_held : (blocks : List Block) → BodiesAreBytes blocks → Held blocks
all_held blocks small = (
  all_members (ListsHeld Bcb) blocks (λ block there. lists_held Bcb block (All-contains BytesOf blocks block small (contains blocks block there))),
  all_members (ListsHeld Bib) (untargeted (ciphers blocks) blocks) (λ block there.
      let kept = from-filter (λ (block : Block). not (list_any (λ op. eqb op.target block.number) (ciphers blocks))) blocks block there in
      lists_held Bib block (All-contains BytesOf blocks block small (contains blocks block kept.0))),
)
