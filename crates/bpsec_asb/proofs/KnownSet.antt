-- The list of the known operations has just these.
use Rattle.std.proofs.Common.{◌≡◌, ◌≢◌, ℕ, suc, inl, inr, Bool, true, false, eqb, not, List, [], ◌∷◌, ◌++◌, refl, sym, ◌∙◌, ap, subst, arith}
use Rattle.std.specs.Prelude.{All, AllPairs, Contains}
use Rattle.std.specs.List.{flat_map, list_any}
use Rattle.std.proofs.lemmas.Bool.{eqb-true, eq-eqb}
use Rattle.std.proofs.lemmas.List.Elements.{All-contains}
use Rattle.bp_blocks.specs.declared.block.Block.{Block}
use Rattle.bpsec_asb.specs.declared.operation.Service.{Service}
use Rattle.bpsec_asb.specs.declared.operation.Service.TheVariants.{Bib, Bcb}
use Rattle.bpsec_asb.specs.declared.operation.OpId.{OpId}
use Rattle.bpsec_asb.specs.Operations.{block_type, NumbersAreDistinct, IsHeldBy, IsOperationOf, IsCovered, IsVisible, IsKnown}
use Rattle.bpsec_asb.specs.Known.{held_by, ListsHeld, ciphers, untargeted}
use Rattle.bpsec_asb.proofs.Members.{Among, among, contains, among-left, among-right, among-append, among-flat_map, from-flat_map, among-filter, from-filter, from-any, any-from}
use Rattle.bpsec_asb.proofs.Held.{held_service, held_found}

-- ---- distinct numbers

apart_head : {A : Type 0} (R : A → A → Type 0) (x : A) (xs : List A) (y : A) → AllPairs R (x ∷ xs) → Among y xs → R x y
apart_head R x xs y pairs there =
    let at = contains xs y there in
    subst (R x) at.2 (pairs 0 (suc at.0) y (omega arith) (omega (arith, at.1)))

apart_tail : {A : Type 0} (R : A → A → Type 0) (x : A) (xs : List A) → AllPairs R (x ∷ xs) → AllPairs R xs
apart_tail R x xs pairs i j d lt in' = pairs (suc i) (suc j) d (omega arith) (omega arith)

same_number : (blocks : List Block) (a b : Block) → NumbersAreDistinct blocks → Among a blocks → Among b blocks → a.number ≡ b.number → a ≡ b
same_number [] a b distinct ha hb e = elim ha [ ]
same_number (z ∷ zs) a b distinct (inl za) (inl zb) e = sym za ∙ zb
same_number (z ∷ zs) a b distinct (inl za) (inr hb) e = absurd (apart_head (λ x y. x.number ≢ y.number) z zs b distinct hb (ap (λ (x : Block). x.number) za ∙ e))
same_number (z ∷ zs) a b distinct (inr ha) (inl zb) e = absurd (apart_head (λ x y. x.number ≢ y.number) z zs a distinct ha (ap (λ (x : Block). x.number) zb ∙ sym e))
same_number (z ∷ zs) a b distinct (inr ha) (inr hb) e = same_number zs a b (apart_tail (λ x y. x.number ≢ y.number) z zs distinct) ha hb e

-- a block confidentiality block is never covered
pub never_covered : (blocks : List Block) (block : Block) → NumbersAreDistinct blocks → Contains blocks block → block.kind ≡ 12 → IsVisible blocks block.number
never_covered blocks block distinct there kind covered =
    let covers = covered.2 in
    let same = same_number blocks covers.block block distinct (among blocks covers.block covers.there) (among blocks block there) covers.number_is in
    covers.not_bcb (ap (λ (b : Block). b.kind) same ∙ kind)

-- ---- the bcb operations

pub cipher_means : (blocks : List Block) (op : OpId) → All (ListsHeld Bcb) blocks → Among op (ciphers blocks) → IsOperationOf blocks op × (op.service ≡ Bcb)
cipher_means blocks op held h =
    let b = from-flat_map (held_by Bcb) blocks op h in
    let there = contains blocks b.0 b.1 in
    let lists : ListsHeld Bcb b.0 = All-contains (ListsHeld Bcb) blocks b.0 held there in
    ((b.0, there, All-contains (λ o. IsHeldBy o b.0) (held_by Bcb b.0) op lists (contains (held_by Bcb b.0) op b.2)), held_service Bcb b.0 op b.2)

pub cipher_found : (blocks : List Block) (op : OpId) → IsOperationOf blocks op → op.service ≡ Bcb → Among op (ciphers blocks)
cipher_found blocks op (block, there, held) service =
    among-flat_map (held_by Bcb) blocks block op (among blocks block there) (subst (λ (s : Service). Among op (held_by s block)) service (held_found block op held))

-- ---- which blocks are targeted

abbrev is_targeted : List OpId → ℕ → Bool
is_targeted ops number = list_any (λ op. eqb op.target number) ops

targeted_if_covered : (blocks : List Block) (number : ℕ) → IsCovered blocks number → is_targeted (ciphers blocks) number ≡ true
targeted_if_covered blocks number (op, held, covers) =
    any-from (λ o. eqb o.target number) (ciphers blocks) op (cipher_found blocks op held covers.service) (eq-eqb _ _ covers.target)

covered_if_targeted : (blocks : List Block) (block : Block) → All (ListsHeld Bcb) blocks → Contains blocks block → block.kind ≢ 12 → is_targeted (ciphers blocks) block.number ≡ true → IsCovered blocks block.number
covered_if_targeted blocks block held there other e =
    let t = from-any (λ o. eqb o.target block.number) (ciphers blocks) e in
    let m = cipher_means blocks t.0 held t.1 in
    (t.0, m.0, record { service = m.1; target = eqb-true _ _ t.2; block = block; there = there; number_is = refl; not_bcb = other })

not_true : (b : Bool) → (b ≡ true → ⊥) → not b ≡ true
not_true true h = absurd (h refl)
not_true false h = refl

is_not_true : (b : Bool) → not b ≡ true → b ≡ true → ⊥
is_not_true true e h = cc
is_not_true false e h = cc

-- ---- the known operations

-- the bcb operations, and the bib operations of blocks that aren't targeted
abbrev pub listed : List Block → List OpId
listed blocks = ciphers blocks ++ flat_map (held_by Bib) (untargeted (ciphers blocks) blocks)

abbrev pub Held : List Block → Type 0
Held blocks = All (ListsHeld Bcb) blocks × All (ListsHeld Bib) (untargeted (ciphers blocks) blocks)

pub visible_bcb : (blocks : List Block) (op : OpId) → NumbersAreDistinct blocks → IsOperationOf blocks op → op.service ≡ Bcb → IsVisible blocks op.block
visible_bcb blocks op distinct (block, there, held) service =
    subst (IsVisible blocks) held.number (never_covered blocks block distinct there (held.service ∙ ap block_type service))

bib_means : (blocks : List Block) (op : OpId) → Held blocks → Among op (flat_map (held_by Bib) (untargeted (ciphers blocks) blocks)) → IsKnown blocks op
bib_means blocks op held h =
    let visible = untargeted (ciphers blocks) blocks in
    let b = from-flat_map (held_by Bib) visible op h in
    let there = contains visible b.0 b.1 in
    let kept = from-filter (λ block. not (is_targeted (ciphers blocks) block.number)) blocks b.0 b.1 in
    let lists : ListsHeld Bib b.0 = All-contains (ListsHeld Bib) visible b.0 held.1 there in
    let here : IsHeldBy op b.0 = All-contains (λ o. IsHeldBy o b.0) (held_by Bib b.0) op lists (contains (held_by Bib b.0) op b.2) in
    ((b.0, contains blocks b.0 kept.0, here), λ covered. is_not_true (is_targeted (ciphers blocks) b.0.number) kept.1 (targeted_if_covered blocks b.0.number (subst (IsCovered blocks) (sym here.number) covered)))

pub listed_means : (blocks : List Block) (op : OpId) → NumbersAreDistinct blocks → Held blocks → Among op (listed blocks) → IsKnown blocks op
listed_means blocks op distinct held h =
    elim (among-append (ciphers blocks) (flat_map (held_by Bib) (untargeted (ciphers blocks) blocks)) op h) [
      | inl cipher ↦ let m = cipher_means blocks op held.0 cipher in (m.0, visible_bcb blocks op distinct m.0 m.1)
      | inr bib ↦ bib_means blocks op held bib
    ]

bib_found : (blocks : List Block) (op : OpId) → All (ListsHeld Bcb) blocks → IsKnown blocks op → op.service ≡ Bib → Among op (flat_map (held_by Bib) (untargeted (ciphers blocks) blocks))
bib_found blocks op held ((block, there, here), visible) service =
    let kind : block.kind ≡ 11 = here.service ∙ ap block_type service in
    let plain : is_targeted (ciphers blocks) block.number ≡ true → ⊥ = λ e. visible (subst (IsCovered blocks) here.number (covered_if_targeted blocks block held there (λ bcb. omega arith) e)) in
    let kept = among-filter (λ b. not (is_targeted (ciphers blocks) b.number)) blocks block (among blocks block there) (not_true (is_targeted (ciphers blocks) block.number) plain) in
    among-flat_map (held_by Bib) (untargeted (ciphers blocks) blocks) block op kept (subst (λ (s : Service). Among op (held_by s block)) service (held_found block op here))

known_of : (blocks : List Block) (op : OpId) (service : Service) → op.service ≡ service → All (ListsHeld Bcb) blocks → IsKnown blocks op → Among op (listed blocks)
known_of blocks op Bib is held known = among-right (ciphers blocks) (flat_map (held_by Bib) (untargeted (ciphers blocks) blocks)) op (bib_found blocks op held known is)
known_of blocks op Bcb is held known = among-left (ciphers blocks) (flat_map (held_by Bib) (untargeted (ciphers blocks) blocks)) op (cipher_found blocks op known.0 is)

pub listed_found : (blocks : List Block) (op : OpId) → All (ListsHeld Bcb) blocks → IsKnown blocks op → Among op (listed blocks)
listed_found blocks op held known = known_of blocks op op.service refl held known
