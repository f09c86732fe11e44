-- What stands in the lists of operations.
use Rattle.std.proofs.Common.{◌≡◌, ℕ, inl, inr, ◌⊎◌, Bool, true, false, ◌&&◌, ◌||◌, cond, eqb, not, List, [], ◌∷◌, ◌++◌, map, Some, refl, sym, ◌∙◌, ap, subst}
use Rattle.std.specs.Prelude.{filter, find}
use Rattle.std.specs.List.{flat_map, list_any}
use Rattle.std.specs.List.Sorted.{IsStrictlySortedBy}
use Rattle.std.proofs.lemmas.Bool.{eqb-true, eq-eqb}
use Rattle.std.proofs.lemmas.List.Kept.{IsStrictlySortedBy-filter}
use Rattle.bp_blocks.specs.declared.block.Block.{Block}
use Rattle.bpsec_asb.specs.declared.operation.Service.{Service}
use Rattle.bpsec_asb.specs.declared.operation.Service.TheVariants.{Bib, Bcb}
use Rattle.bpsec_asb.specs.declared.operation.OpId.{OpId}
use Rattle.bpsec_asb.specs.Operations.{block_type}
use Rattle.bpsec_asb.specs.Order.{op_cmp}
use Rattle.bpsec_asb.specs.Known.{targets_of, operation, held_by, ciphers, untargeted, known}
use Rattle.bpsec_asb.specs.Reading.{read_body}
use Rattle.bpsec_asb.proofs.Members.{Among, among-left, among-right, among-append, among-flat_map, from-flat_map, among-filter, from-filter, from-map, from-any, any-from, from-set, among-set}
use Rattle.bpsec_asb.proofs.Ordered.{op_cmp_exact, op_cmp_total, sorted_set, sorted_none}
use Rattle.bpsec_asb.proofs.KnownSet.{listed}
use Rattle.bpsec_policy.specs.Rules.{same_service}
use Rattle.bpsec_node.specs.Situation.{Situation, is_op, is_among}
use Rattle.bpsec_node.specs.Plain.{covers, cover, plain, may_be_covered}
use Rattle.bpsec_node.specs.Site.{block_at}
use Rattle.bpsec_node.specs.AllOperations.{revealed, all_operations}
use Rattle.bpsec_node.specs.Order.{is_ready, ready}

-- ---- truth values

pub both : (a b : Bool) → (a && b) ≡ true → (a ≡ true) × (b ≡ true)
both true b e = (refl, e)
both false b e = absurd cc

pub both_true : (a b : Bool) → a ≡ true → b ≡ true → (a && b) ≡ true
both_true true b ea eb = eb
both_true false b ea eb = absurd cc

pub either_true : (a b : Bool) → (a || b) ≡ true → (a ≡ true) ⊎ (b ≡ true)
either_true true b e = inl refl
either_true false b e = inr e

pub not_true : (a : Bool) → not a ≡ true → a ≡ true → ⊥
not_true true e h = cc
not_true false e h = cc

pub same_truth : (a b : Bool) → (a ≡ true → b ≡ true) → (b ≡ true → a ≡ true) → a ≡ b
same_truth true b to from = sym (to refl)
same_truth false true to from = from refl
same_truth false false to from = refl

-- ---- operations

service_same : (a b : Service) → same_service a b ≡ true → a ≡ b
service_same Bib Bib e = refl
service_same Bib Bcb e = absurd cc
service_same Bcb Bib e = absurd cc
service_same Bcb Bcb e = refl

service_itself : (a : Service) → same_service a a ≡ true
service_itself Bib = refl
service_itself Bcb = refl

pub is_op_same : (a b : OpId) → is_op a b ≡ true → a ≡ b
is_op_same a b e =
    let s = both (same_service a.service b.service) (eqb a.block b.block && eqb a.target b.target) e in
    let n = both (eqb a.block b.block) (eqb a.target b.target) s.1 in
    let service : a.service ≡ b.service = service_same a.service b.service s.0 in
    let block : a.block ≡ b.block = eqb-true _ _ n.0 in
    let target : a.target ≡ b.target = eqb-true _ _ n.1 in
    ap (λ (s : Service). record { service = s; block = a.block; target = a.target }) service
    ∙ ap (λ (n : ℕ). record { service = b.service; block = n; target = a.target }) block
    ∙ ap (λ (n : ℕ). record { service = b.service; block = b.block; target = n }) target

pub is_op_itself : (a : OpId) → is_op a a ≡ true
is_op_itself a = both_true _ _ (service_itself a.service) (both_true _ _ (eq-eqb a.block a.block refl) (eq-eqb a.target a.target refl))

pub from_is_among : (ops : List OpId) (op : OpId) → is_among ops op ≡ true → Among op ops
from_is_among ops op e = let f = from-any (is_op op) ops e in subst (λ (o : OpId). Among o ops) (sym (is_op_same op f.0 f.2)) f.1

pub is_among_from : (ops : List OpId) (op : OpId) → Among op ops → is_among ops op ≡ true
is_among_from ops op there = any-from (is_op op) ops op there (is_op_itself op)

pub among_or_not : (ops : List OpId) (op : OpId) → Among op ops ⊎ (is_among ops op ≡ false)
among_or_not ops op = cases (is_among ops op) refl
  where
    cases : (b : Bool) → is_among ops op ≡ b → Among op ops ⊎ (is_among ops op ≡ false)
    cases true e = inl (from_is_among ops op e)
    cases false e = inr e

-- what a search finds stands in the list and passes
found_first : {A : Type 0} (p : A → Bool) (y : A) (ys : List A) (x : A) (b : Bool) → p y ≡ b → (find p ys ≡ Some x → Among x ys × (p x ≡ true)) → cond b (Some y) (find p ys) ≡ Some x → Among x (y ∷ ys) × (p x ≡ true)
found_first p y ys x true is more e = let same : y ≡ x = cc in (inl same, sym (ap p same) ∙ is)
found_first p y ys x false is more e = let r = more e in (inr r.0, r.1)

pub found : {A : Type 0} (p : A → Bool) (xs : List A) (x : A) → find p xs ≡ Some x → Among x xs × (p x ≡ true)
found p [] x e = absurd cc
found p (y ∷ ys) x e = found_first p y ys x (p y) refl (λ more. found p ys x more) e

-- ---- held operations

held_from : (service : Service) (block : Block) (op : OpId) (b : Bool) → Among op (cond b (map (operation service block.number) (targets_of (read_body block.body))) []) → (op.service ≡ service) × (op.block ≡ block.number)
held_from service block op true h =
    let t = from-map (operation service block.number) (targets_of (read_body block.body)) op h in
    (ap (λ (o : OpId). o.service) (sym t.2), ap (λ (o : OpId). o.block) (sym t.2))
held_from service block op false h = absurd h

pub held_parts : (service : Service) (block : Block) (op : OpId) → Among op (held_by service block) → (op.service ≡ service) × (op.block ≡ block.number)
held_parts service block op h = held_from service block op (eqb block.kind (block_type service)) h

-- ---- known operations

pub from_known : (blocks : List Block) (op : OpId) → Among op (known blocks) → Among op (ciphers blocks) ⊎ ((block : Block) × Among block blocks × (list_any (λ o. eqb o.target block.number) (ciphers blocks) ≡ false) × Among op (held_by Bib block))
from_known blocks op h =
    elim (from-set op_cmp (listed blocks) [] op h) [
      | inl none ↦ absurd none
      | inr there ↦ elim (among-append (ciphers blocks) (flat_map (held_by Bib) (untargeted (ciphers blocks) blocks)) op there) [
        | inl cipher ↦ inl cipher
        | inr bib ↦
            let b = from-flat_map (held_by Bib) (untargeted (ciphers blocks) blocks) op bib in
            let kept = from-filter (λ (block : Block). not (list_any (λ o. eqb o.target block.number) (ciphers blocks))) blocks b.0 b.1 in
            inr (b.0, kept.0, is_false (list_any (λ o. eqb o.target b.0.number) (ciphers blocks)) kept.1, b.2)
      ]
    ]
  where
    is_false : (b : Bool) → not b ≡ true → b ≡ false
    is_false true e = absurd cc
    is_false false e = refl

pub known_cipher : (blocks : List Block) (op : OpId) → Among op (ciphers blocks) → Among op (known blocks)
known_cipher blocks op there =
    among-set op_cmp op_cmp_exact (listed blocks) [] op (among-left (ciphers blocks) (flat_map (held_by Bib) (untargeted (ciphers blocks) blocks)) op there)

pub known_bib : (blocks : List Block) (block : Block) (op : OpId) → Among block blocks → list_any (λ o. eqb o.target block.number) (ciphers blocks) ≡ false → Among op (held_by Bib block) → Among op (known blocks)
known_bib blocks block op there plain held =
    let kept = among-filter (λ (block : Block). not (list_any (λ o. eqb o.target block.number) (ciphers blocks))) blocks block there (ap not plain) in
    among-set op_cmp op_cmp_exact (listed blocks) [] op
    (among-right (ciphers blocks) (flat_map (held_by Bib) (untargeted (ciphers blocks) blocks)) op
    (among-flat_map (held_by Bib) (untargeted (ciphers blocks) blocks) block op kept held))

-- ---- all operations

pub all_sorted : (s : Situation) → IsStrictlySortedBy op_cmp (all_operations s)
unfolding all_operations
all_sorted s = sorted_set op_cmp op_cmp_total (known s.bundle.blocks ++ flat_map (held_by Bib) (revealed s)) [] (sorted_none op_cmp)

pub from_all : (s : Situation) (op : OpId) → Among op (all_operations s) → Among op (known s.bundle.blocks) ⊎ ((block : Block) × Among block (revealed s) × Among op (held_by Bib block))
unfolding all_operations
from_all s op h =
    elim (from-set op_cmp (known s.bundle.blocks ++ flat_map (held_by Bib) (revealed s)) [] op h) [
      | inl none ↦ absurd none
      | inr there ↦ elim (among-append (known s.bundle.blocks) (flat_map (held_by Bib) (revealed s)) op there) [
        | inl is ↦ inl is
        | inr bib ↦ inr (from-flat_map (held_by Bib) (revealed s) op bib)
      ]
    ]

pub all_known : (s : Situation) (op : OpId) → Among op (known s.bundle.blocks) → Among op (all_operations s)
unfolding all_operations
all_known s op there =
    among-set op_cmp op_cmp_exact (known s.bundle.blocks ++ flat_map (held_by Bib) (revealed s)) [] op (among-left (known s.bundle.blocks) (flat_map (held_by Bib) (revealed s)) op there)

pub all_revealed : (s : Situation) (block : Block) (op : OpId) → Among block (revealed s) → Among op (held_by Bib block) → Among op (all_operations s)
unfolding all_operations
all_revealed s block op there held =
    among-set op_cmp op_cmp_exact (known s.bundle.blocks ++ flat_map (held_by Bib) (revealed s)) [] op
    (among-right (known s.bundle.blocks) (flat_map (held_by Bib) (revealed s)) op (among-flat_map (held_by Bib) (revealed s) block op there held))

-- ---- covers

pub cover_found : (blocks : List Block) (number : ℕ) (op : OpId) → cover blocks number ≡ Some op → Among op (ciphers blocks) × (op.target ≡ number)
unfolding cover covers
cover_found blocks number op is =
    let f = found (λ (o : OpId). eqb o.target number) (filter (λ (o : OpId). may_be_covered (block_at blocks o.target)) (ciphers blocks)) op is in
    ((from-filter (λ (o : OpId). may_be_covered (block_at blocks o.target)) (ciphers blocks) op f.0).0, eqb-true _ _ f.1)

-- ---- ready operations

pub ready_sorted : (s : Situation) (done : List OpId) → IsStrictlySortedBy op_cmp (ready s done)
unfolding ready
ready_sorted s done = IsStrictlySortedBy-filter op_cmp (is_ready s.bundle.blocks done) (all_operations s) (all_sorted s)

pub from_ready : (s : Situation) (done : List OpId) (op : OpId) → Among op (ready s done) → Among op (all_operations s) × (is_ready s.bundle.blocks done op ≡ true)
unfolding ready
from_ready s done op h = from-filter (is_ready s.bundle.blocks done) (all_operations s) op h

pub among_ready : (s : Situation) (done : List OpId) (op : OpId) → Among op (all_operations s) → is_ready s.bundle.blocks done op ≡ true → Among op (ready s done)
unfolding ready
among_ready s done op there is = among-filter (is_ready s.bundle.blocks done) (all_operations s) op there is
