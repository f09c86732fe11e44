-- All operations, block by block.
use Rattle.std.proofs.Common.{◌≡◌, ◌≢◌, ℕ, suc, inl, inr, ◌⊎◌, Bool, true, false, ◌||◌, not, cond, eqb, List, [], ◌∷◌, map, Option, Some, None, refl, sym, ◌∙◌, ap, subst, arith}
use Rattle.std.specs.Prelude.{AllPairs, filter, find, is_some, option_map}
use Rattle.std.specs.List.{list_any}
use Rattle.std.proofs.lemmas.Bool.{eqb-true, eq-eqb, ne_eqb}
use Rattle.bp_blocks.specs.declared.block.Block.{Block}
use Rattle.bpsec_asb.specs.declared.operation.Service.{Service}
use Rattle.bpsec_asb.specs.declared.operation.Service.TheVariants.{Bib, Bcb}
use Rattle.bpsec_asb.specs.declared.operation.OpId.{OpId}
use Rattle.bpsec_asb.specs.Operations.{NumbersAreDistinct}
use Rattle.bpsec_asb.specs.Known.{operation, held_by, ciphers, targets_of}
use Rattle.bpsec_asb.specs.Reading.{read_body}
use Rattle.bpsec_asb.proofs.Members.{Among, contains, among-map, from-map, among-filter, from-filter, from-any, any-from}
use Rattle.bpsec_node.specs.Situation.{Situation, is_among}
use Rattle.bpsec_node.specs.Site.{block_at}
use Rattle.bpsec_node.specs.Plain.{may_be_covered, covers, cover, is_opened, plain_by, plain_body, plain_block, plain}
use Rattle.bpsec_node.specs.AllOperations.{revealed, all_operations, is_open}
use Rattle.bpsec_node.specs.Session.{has, applies_to, is_operation_by, is_operation}
use Rattle.bpsec_node.proofs.Members.{both, both_true, same_truth, from_is_among, is_among_from, held_parts, from_known, known_cipher, known_bib, from_all, all_known, all_revealed}
use Rattle.bpsec_node.proofs.Agree.{plain_number, block_at_number, plain_at}
use Rattle.bpsec_node.proofs.Ended.{cipher_service}

-- ---- blocks of distinct numbers

apart_head : {A : Type 0} (R : A → A → Type 0) (x : A) (xs : List A) (y : A) → AllPairs R (x ∷ xs) → Among y xs → R x y
apart_head R x xs y pairs there =
    let at = contains xs y there in
    subst (R x) at.2 (pairs 0 (suc at.0) y (omega arith) (omega (arith, at.1)))

apart_tail : {A : Type 0} (R : A → A → Type 0) (x : A) (xs : List A) → AllPairs R (x ∷ xs) → AllPairs R xs
apart_tail R x xs pairs i j d lt in' = pairs (suc i) (suc j) d (omega arith) (omega arith)

-- the block with its number is the block itself
pub at_itself : (blocks : List Block) (block : Block) → NumbersAreDistinct blocks → Among block blocks → block_at blocks block.number ≡ Some block
at_itself [] block distinct there = elim there [ ]
at_itself (first ∷ blocks) block distinct (inl e) =
    subst (λ (b : Block). block_at (first ∷ blocks) b.number ≡ Some b) e (ap (λ b. cond b (Some first) (block_at blocks first.number)) (eq-eqb first.number first.number refl))
at_itself (first ∷ blocks) block distinct (inr there) =
    let apart : first.number ≢ block.number = apart_head (λ x y. x.number ≢ y.number) first blocks block distinct there in
    ap (λ b. cond b (Some first) (block_at blocks block.number)) (ne_eqb first.number block.number apart)
    ∙ at_itself blocks block (apart_tail (λ x y. x.number ≢ y.number) first blocks distinct) there

-- ---- what covers a block

some_none : {A : Type 0} (x : A) → Some x ≡ None → ⊥
some_none x e = absurd cc

none_first : {A : Type 0} (p : A → Bool) (y : A) (ys : List A) (x : A) (b : Bool) → p y ≡ b → cond b (Some y) (find p ys) ≡ None → (find p ys ≡ None → Among x ys → ⊥) → p x ≡ true → Among x (y ∷ ys) → ⊥
none_first p y ys x true is e more passes there = absurd (some_none y e)
none_first p y ys x false is e more passes (inl same) = let t : true ≡ false = sym passes ∙ (sym (ap p same) ∙ is) in absurd cc
none_first p y ys x false is e more passes (inr there) = more e there

-- where a search finds nothing, nothing passes
pub none_found : {A : Type 0} (p : A → Bool) (xs : List A) (x : A) → find p xs ≡ None → Among x xs → p x ≡ true → ⊥
none_found p [] x e there passes = elim there [ ]
none_found p (y ∷ ys) x e there passes = none_first p y ys x (p y) refl e (λ none more. none_found p ys x none more passes) passes there

pub none_finds : {A : Type 0} (p : A → Bool) (xs : List A) → ((x : A) → Among x xs → p x ≡ false) → find p xs ≡ None
none_finds p [] fails = refl
none_finds p (y ∷ ys) fails = ap (λ b. cond b (Some y) (find p ys)) (fails y (inl refl)) ∙ none_finds p ys (λ x there. fails x (inr there))

any_false : {A : Type 0} (p : A → Bool) (xs : List A) (x : A) → list_any p xs ≡ false → Among x xs → p x ≡ false
any_false p xs x none there = cases (p x) refl
  where
    cases : (b : Bool) → p x ≡ b → p x ≡ false
    cases true is = let t : false ≡ true = sym none ∙ any-from p xs x there is in absurd cc
    cases false is = is

-- no operation covers a block that no bcb operation targets
pub uncovered : (blocks : List Block) (number : ℕ) → list_any (λ (o : OpId). eqb o.target number) (ciphers blocks) ≡ false → cover blocks number ≡ None
unfolding cover covers
uncovered blocks number none =
    none_finds (λ (o : OpId). eqb o.target number) (filter (λ (o : OpId). may_be_covered (block_at blocks o.target)) (ciphers blocks))
    (λ op there. any_false (λ (o : OpId). eqb o.target number) (ciphers blocks) op none (from-filter (λ (o : OpId). may_be_covered (block_at blocks o.target)) (ciphers blocks) op there).0)

-- no bcb operation targets a block that no operation covers and that isn't a block confidentiality block
pub untargeted_at : (blocks : List Block) (block : Block) → block_at blocks block.number ≡ Some block → eqb block.kind 12 ≡ false → cover blocks block.number ≡ None → list_any (λ (o : OpId). eqb o.target block.number) (ciphers blocks) ≡ false
unfolding cover covers
untargeted_at blocks block at kind none = cases (list_any (λ (o : OpId). eqb o.target block.number) (ciphers blocks)) refl
  where
    cases : (b : Bool) → list_any (λ (o : OpId). eqb o.target block.number) (ciphers blocks) ≡ b → list_any (λ (o : OpId). eqb o.target block.number) (ciphers blocks) ≡ false
    cases false is = is
    cases true is =
        let f = from-any (λ (o : OpId). eqb o.target block.number) (ciphers blocks) is in
        let target : f.0.target ≡ block.number = eqb-true _ _ f.2 in
        let may : may_be_covered (block_at blocks f.0.target) ≡ true = ap (λ n. may_be_covered (block_at blocks n)) target ∙ (ap may_be_covered at ∙ ap not kind) in
        absurd (none_found (λ (o : OpId). eqb o.target block.number) (filter (λ (o : OpId). may_be_covered (block_at blocks o.target)) (ciphers blocks)) f.0 none
        (among-filter (λ (o : OpId). may_be_covered (block_at blocks o.target)) (ciphers blocks) f.0 f.1 may) f.2)

-- ---- a block that isn't covered is plain as it is

plain_by_none : (s : Situation) (block : Block) (c : Option OpId) → c ≡ None → plain_by s block c ≡ block.body
plain_by_none s block None e = refl
plain_by_none s block (Some op) e = absurd cc

pub plain_uncovered : (s : Situation) (block : Block) → cover s.bundle.blocks block.number ≡ None → plain_block s block ≡ block
unfolding plain_block plain_body
plain_uncovered s block none = ap (λ (body : List ℕ). record block { body = body }) (plain_by_none s block (cover s.bundle.blocks block.number) none)

-- ---- held operations

pub held_op : (block : Block) (target : ℕ) → eqb block.kind 11 ≡ true → Among target (targets_of (read_body block.body)) → Among (operation Bib block.number target) (held_by Bib block)
held_op block target kind there =
    subst (λ b. Among (operation Bib block.number target) (cond b (map (operation Bib block.number) (targets_of (read_body block.body))) [])) (sym kind)
    (among-map (operation Bib block.number) (targets_of (read_body block.body)) target (operation Bib block.number target) there refl)

held_here : (block : Block) (op : OpId) (b : Bool) → eqb block.kind 11 ≡ b → Among op (cond b (map (operation Bib block.number) (targets_of (read_body block.body))) []) → (eqb block.kind 11 ≡ true) × Among op.target (targets_of (read_body block.body))
held_here block op true kind there =
    let t = from-map (operation Bib block.number) (targets_of (read_body block.body)) op there in
    (kind, subst (λ n. Among n (targets_of (read_body block.body))) (ap (λ (o : OpId). o.target) t.2) t.1)
held_here block op false kind there = absurd there

pub held_target : (block : Block) (op : OpId) → Among op (held_by Bib block) → (eqb block.kind 11 ≡ true) × Among op.target (targets_of (read_body block.body))
held_target block op there = held_here block op (eqb block.kind 11) refl there

pub from_has : (numbers : List ℕ) (n : ℕ) → has numbers n ≡ true → Among n numbers
from_has numbers n e = let f = from-any (λ m. eqb m n) numbers e in subst (λ m. Among m numbers) (eqb-true _ _ f.2) f.1

pub has_from : (numbers : List ℕ) (n : ℕ) → Among n numbers → has numbers n ≡ true
has_from numbers n there = any-from (λ m. eqb m n) numbers n there (eq-eqb n n refl)

pub plain_at_itself : (s : Situation) (block : Block) → NumbersAreDistinct s.bundle.blocks → Among block s.bundle.blocks → block_at (plain s).blocks block.number ≡ Some (plain_block s block)
plain_at_itself s block distinct there = plain_at s block.number ∙ ap (option_map (plain_block s)) (at_itself s.bundle.blocks block distinct there)

-- ---- all operations are those of the ciphers, and those of the integrity blocks that are open

abbrev ByBlock : Situation → OpId → Type 0
ByBlock s op = (is_open s op.block ≡ true) × (applies_to (block_at (plain s).blocks op.block) op.target ≡ true)

applies_here : (s : Situation) (op : OpId) (block : Block) → block_at (plain s).blocks op.block ≡ Some block → Among op (held_by Bib block) → applies_to (block_at (plain s).blocks op.block) op.target ≡ true
applies_here s op block at held =
    let h = held_target block op held in
    ap (λ b. applies_to b op.target) at ∙ both_true (eqb block.kind 11) (has (targets_of (read_body block.body)) op.target) h.0 (has_from (targets_of (read_body block.body)) op.target h.1)

by_visible : (s : Situation) (op : OpId) (block : Block) → NumbersAreDistinct s.bundle.blocks → Among block s.bundle.blocks → list_any (λ (o : OpId). eqb o.target block.number) (ciphers s.bundle.blocks) ≡ false → Among op (held_by Bib block) → ByBlock s op
unfolding is_open
by_visible s op block distinct there none held =
    let number = (held_parts Bib block op held).1 in
    let free = uncovered s.bundle.blocks block.number none in
    let open_here : is_open s block.number ≡ true = ap (λ (c : Option OpId). not (is_some c) || is_opened s block.number) free in
    let at : block_at (plain s).blocks block.number ≡ Some block = plain_at_itself s block distinct there ∙ ap Some (plain_uncovered s block free) in (
      subst (λ n. is_open s n ≡ true) (sym number) open_here,
      applies_here s op block (subst (λ n. block_at (plain s).blocks n ≡ Some block) (sym number) at) held,
    )

or_right : (a b : Bool) → b ≡ true → (a || b) ≡ true
or_right true b e = refl
or_right false b e = e

by_revealed : (s : Situation) (op : OpId) (block : Block) → NumbersAreDistinct s.bundle.blocks → Among block (revealed s) → Among op (held_by Bib block) → ByBlock s op
unfolding revealed plain is_open
by_revealed s op block distinct there held =
    let number = (held_parts Bib block op held).1 in
    let kept = from-filter (λ (b : Block). is_opened s b.number) (map (plain_block s) s.bundle.blocks) block there in
    let from = from-map (plain_block s) s.bundle.blocks block kept.0 in
    let same : from.0.number ≡ block.number = sym (plain_number s from.0) ∙ ap (λ (b : Block). b.number) from.2 in
    let open_here : is_open s block.number ≡ true = or_right (not (is_some (cover s.bundle.blocks block.number))) (is_opened s block.number) kept.1 in
    let at : block_at (plain s).blocks block.number ≡ Some block = subst (λ n. block_at (plain s).blocks n ≡ Some block) same (plain_at_itself s from.0 distinct from.1 ∙ ap Some from.2) in (
      subst (λ n. is_open s n ≡ true) (sym number) open_here,
      applies_here s op block (subst (λ n. block_at (plain s).blocks n ≡ Some block) (sym number) at) held,
    )

operation_by_block : (s : Situation) (op : OpId) (service : Service) → service ≡ Bib → ByBlock s op → is_operation_by s op service ≡ true
operation_by_block s op Bib e held = both_true (is_open s op.block) (applies_to (block_at (plain s).blocks op.block) op.target) held.0 held.1
operation_by_block s op Bcb e held = absurd cc

operation_by_cipher : (s : Situation) (op : OpId) (service : Service) → service ≡ Bcb → Among op (ciphers s.bundle.blocks) → is_operation_by s op service ≡ true
operation_by_cipher s op Bib e there = absurd cc
operation_by_cipher s op Bcb e there = is_among_from (ciphers s.bundle.blocks) op there

pub operation_if_among : (s : Situation) (op : OpId) → NumbersAreDistinct s.bundle.blocks → Among op (all_operations s) → is_operation s op ≡ true
unfolding is_operation
operation_if_among s op distinct there =
    elim (from_all s op there) [
      | inl known ↦ elim (from_known s.bundle.blocks op known) [
        | inl cipher ↦ operation_by_cipher s op op.service (cipher_service s.bundle.blocks op cipher) cipher
        | inr bib ↦ operation_by_block s op op.service (held_parts Bib bib.0 op bib.3).0 (by_visible s op bib.0 distinct bib.1 bib.2 bib.3)
      ]
      | inr bib ↦ operation_by_block s op op.service (held_parts Bib bib.0 op bib.2).0 (by_revealed s op bib.0 distinct bib.1 bib.2)
    ]

-- ---- and the other way round

is_bib_op : (op : OpId) (block : Block) → op.service ≡ Bib → block.number ≡ op.block → operation Bib block.number op.target ≡ op
is_bib_op op block service number =
    ap (λ (n : ℕ). record { service = Bib; block = n; target = op.target }) number
    ∙ ap (λ (x : Service). record { service = x; block = op.block; target = op.target }) (sym service)

open_cases : (s : Situation) (number : ℕ) → is_open s number ≡ true → (cover s.bundle.blocks number ≡ None) ⊎ (is_opened s number ≡ true)
unfolding is_open
open_cases s number e = cases (cover s.bundle.blocks number) refl e
  where
    cases : (c : Option OpId) → cover s.bundle.blocks number ≡ c → (not (is_some c) || is_opened s number) ≡ true → (cover s.bundle.blocks number ≡ None) ⊎ (is_opened s number ≡ true)
    cases None is e = inl is
    cases (Some op) is e = inr e

kind_apart : (kind : ℕ) → eqb kind 11 ≡ true → eqb kind 12 ≡ false
kind_apart kind e = ne_eqb kind 12 (λ twelve. let eleven : kind ≡ 11 = eqb-true kind 11 e in omega arith)

among_by_block : (s : Situation) (op : OpId) (block : Block) → NumbersAreDistinct s.bundle.blocks → op.service ≡ Bib → Among block s.bundle.blocks → block.number ≡ op.block
    → is_open s op.block ≡ true → eqb (plain_block s block).kind 11 ≡ true → Among op.target (targets_of (read_body (plain_block s block).body)) → Among op (all_operations s)
unfolding revealed plain
among_by_block s op block distinct service there number open_here kind target =
    let plain_here = plain_block s block in
    let number' : plain_here.number ≡ op.block = plain_number s block ∙ number in
    let held : Among op (held_by Bib plain_here) = subst (λ (o : OpId). Among o (held_by Bib plain_here)) (is_bib_op op plain_here service number') (held_op plain_here op.target kind target) in
    elim (open_cases s op.block open_here) [
      | inl free ↦
          let free' : cover s.bundle.blocks block.number ≡ None = subst (λ n. cover s.bundle.blocks n ≡ None) (sym number) free in
          let as_it_is = plain_uncovered s block free' in
          let kind' : eqb block.kind 11 ≡ true = subst (λ (b : Block). eqb b.kind 11 ≡ true) as_it_is kind in
          all_known s op (known_bib s.bundle.blocks block op there
          (untargeted_at s.bundle.blocks block (at_itself s.bundle.blocks block distinct there) (kind_apart block.kind kind') free')
          (subst (λ (b : Block). Among op (held_by Bib b)) as_it_is held))
      | inr opened ↦
          all_revealed s plain_here op
          (among-filter (λ (b : Block). is_opened s b.number) (map (plain_block s) s.bundle.blocks) plain_here
          (among-map (plain_block s) s.bundle.blocks block plain_here there refl)
          (subst (λ n. is_opened s n ≡ true) (sym number') opened))
          held
    ]

among_at : (s : Situation) (op : OpId) (at : Option Block) → NumbersAreDistinct s.bundle.blocks → op.service ≡ Bib → block_at s.bundle.blocks op.block ≡ at → is_open s op.block ≡ true
    → applies_to (option_map (plain_block s) at) op.target ≡ true → Among op (all_operations s)
among_at s op None distinct service is open_here e = absurd cc
among_at s op (Some block) distinct service is open_here e =
    let f = block_at_number s.bundle.blocks op.block block is in
    let h = both (eqb (plain_block s block).kind 11) (has (targets_of (read_body (plain_block s block).body)) op.target) e in
    among_by_block s op block distinct service f.0 f.1 open_here h.0 (from_has (targets_of (read_body (plain_block s block).body)) op.target h.1)

among_by_service : (s : Situation) (op : OpId) (service : Service) → op.service ≡ service → NumbersAreDistinct s.bundle.blocks → is_operation_by s op service ≡ true → Among op (all_operations s)
among_by_service s op Bib is distinct e =
    let h = both (is_open s op.block) (applies_to (block_at (plain s).blocks op.block) op.target) e in
    among_at s op (block_at s.bundle.blocks op.block) distinct is refl h.0 (sym (ap (λ b. applies_to b op.target) (plain_at s op.block)) ∙ h.1)
among_by_service s op Bcb is distinct e = all_known s op (known_cipher s.bundle.blocks op (from_is_among (ciphers s.bundle.blocks) op e))

pub among_if_operation : (s : Situation) (op : OpId) → NumbersAreDistinct s.bundle.blocks → is_operation s op ≡ true → Among op (all_operations s)
unfolding is_operation
among_if_operation s op distinct e = among_by_service s op op.service refl distinct e

-- all operations, as they are found block by block
pub is_among_all : (s : Situation) (op : OpId) → NumbersAreDistinct s.bundle.blocks → is_among (all_operations s) op ≡ is_operation s op
is_among_all s op distinct =
    same_truth (is_among (all_operations s) op) (is_operation s op)
    (λ e. operation_if_among s op distinct (from_is_among (all_operations s) op e))
    (λ e. is_among_from (all_operations s) op (among_if_operation s op distinct e))
