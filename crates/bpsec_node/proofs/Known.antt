-- The lists of this crate in the words of the crate below.
use Rattle.std.proofs.Common.{◌≡◌, ◌≢◌, ℕ, inl, inr, ◌⊎◌, true, false, eqb, not, List, Option, Some, None, refl, sym, ◌∙◌, ap, subst}
use Rattle.std.specs.Prelude.{Contains, filter}
use Rattle.std.proofs.lemmas.Bool.{eqb-true, eq-eqb, ne_eqb}
use Rattle.std.proofs.lemmas.List.Elements.{All-contains}
use Rattle.bp_eid.proofs.Steps.{IsBytes}
use Rattle.bp_blocks.specs.declared.block.Block.{Block}
use Rattle.bpsec_asb.specs.declared.operation.Service.{Service}
use Rattle.bpsec_asb.specs.declared.operation.Service.TheVariants.{Bib}
use Rattle.bpsec_asb.specs.declared.operation.OpId.{OpId}
use Rattle.bpsec_asb.specs.Operations.{NumbersAreDistinct, BodiesAreBytes, IsHeldBy, IsOperationOf, Covers, IsVisible, IsKnown}
use Rattle.bpsec_asb.specs.Known.{held_by, ciphers, known}
use Rattle.bpsec_asb.proofs.Members.{Among, among, contains, among-filter, from-filter}
use Rattle.bpsec_asb.proofs.Held.{held_means, held_found}
use Rattle.bpsec_asb.proofs.KnownSet.{cipher_means, cipher_found}
use Rattle.bpsec_asb.proofs.KnownList.{known_means, known_found, all_held}
use Rattle.bpsec_node.specs.Situation.{Situation}
use Rattle.bpsec_node.specs.Site.{block_at}
use Rattle.bpsec_node.specs.Plain.{may_be_covered, covers, cover}
use Rattle.bpsec_node.specs.AllOperations.{revealed, all_operations}
use Rattle.bpsec_node.specs.Begin.{CoveredOnce}
use Rattle.bpsec_node.proofs.Members.{found, from_all, all_known, all_revealed}
use Rattle.bpsec_node.proofs.Agree.{block_at_number}
use Rattle.bpsec_node.proofs.Operations.{at_itself, none_found}
use Rattle.bpsec_node.proofs.Sited.{cover_itself}

may_be : (blocks : List Block) (number : ℕ) (at : Option Block) → block_at blocks number ≡ at → may_be_covered at ≡ true → (block : Block) × Among block blocks × (block.number ≡ number) × (block.kind ≢ 12)
may_be blocks number None is e = absurd cc
may_be blocks number (Some block) is e = let f = block_at_number blocks number block is in (block, f.0, f.1, λ twelve. let t : true ≡ false = sym e ∙ ap not (eq-eqb block.kind 12 twelve) in not_so t)
  where
    not_so : true ≡ false → ⊥
    not_so t = absurd cc

pub cover_means : (blocks : List Block) (number : ℕ) (op : OpId) → BodiesAreBytes blocks → cover blocks number ≡ Some op → IsOperationOf blocks op × Covers blocks op number
unfolding cover covers
cover_means blocks number op small is =
    let f = found (λ (o : OpId). eqb o.target number) (filter (λ (o : OpId). may_be_covered (block_at blocks o.target)) (ciphers blocks)) op is in
    let kept = from-filter (λ (o : OpId). may_be_covered (block_at blocks o.target)) (ciphers blocks) op f.0 in
    let m = cipher_means blocks op (all_held blocks small).0 kept.0 in
    let target : op.target ≡ number = eqb-true _ _ f.1 in
    let b = may_be blocks op.target (block_at blocks op.target) refl kept.1 in
    (m.0, record { service = m.1; target = target; block = b.0; there = contains blocks b.0 b.1; number_is = b.2 ∙ target; not_bcb = b.3 })

pub cover_none : (blocks : List Block) (number : ℕ) → NumbersAreDistinct blocks → cover blocks number ≡ None → IsVisible blocks number
unfolding cover covers
cover_none blocks number distinct none (op, held, covered) =
    let there = cipher_found blocks op held covered.service in
    let at : block_at blocks covered.block.number ≡ Some covered.block = at_itself blocks covered.block distinct (among blocks covered.block covered.there) in
    let may : may_be_covered (block_at blocks op.target) ≡ true = ap (λ n. may_be_covered (block_at blocks n)) (covered.target ∙ sym covered.number_is) ∙ (ap may_be_covered at ∙ ap not (ne_eqb covered.block.kind 12 covered.not_bcb)) in
    none_found (λ (o : OpId). eqb o.target number) (filter (λ (o : OpId). may_be_covered (block_at blocks o.target)) (ciphers blocks)) op none
    (among-filter (λ (o : OpId). may_be_covered (block_at blocks o.target)) (ciphers blocks) op there may) (eq-eqb _ _ covered.target)

-- where no block is covered twice, what covers a block is the one that is found
pub cover_only : (blocks : List Block) (number : ℕ) (op : OpId) → NumbersAreDistinct blocks → CoveredOnce blocks → IsOperationOf blocks op → Covers blocks op number → cover blocks number ≡ Some op
cover_only blocks number op distinct once held covered = by (cover blocks number) refl
  where
    by : (c : Option OpId) → cover blocks number ≡ c → cover blocks number ≡ Some op
    by None is = absurd (cover_none blocks number distinct is (op, held, covered))
    by (Some c) is =
        let same : c ≡ op = cover_itself blocks op c once (cipher_found blocks op held covered.service) (ap (cover blocks) covered.target ∙ is) in
        is ∙ ap Some same

pub visible_none : (blocks : List Block) (number : ℕ) → BodiesAreBytes blocks → IsVisible blocks number → cover blocks number ≡ None
visible_none blocks number small visible = by (cover blocks number) refl
  where
    by : (c : Option OpId) → cover blocks number ≡ c → cover blocks number ≡ None
    by None is = is
    by (Some op) is = let m = cover_means blocks number op small is in absurd (visible (op, m.0, m.1))

pub all_means : (s : Situation) (op : OpId) → NumbersAreDistinct s.bundle.blocks → BodiesAreBytes s.bundle.blocks → BodiesAreBytes (revealed s) → Contains (all_operations s) op
    → IsKnown s.bundle.blocks op ⊎ ((block : Block) × Contains (revealed s) block × IsHeldBy op block)
all_means s op distinct small opened there =
    elim (from_all s op (among (all_operations s) op there)) [
      | inl is ↦ inl (All-contains (IsKnown s.bundle.blocks) (known s.bundle.blocks) op (known_means s.bundle.blocks distinct (all_held s.bundle.blocks small)) (contains (known s.bundle.blocks) op is))
      | inr bib ↦
          let at = contains (revealed s) bib.0 bib.1 in
          inr (bib.0, at, held_means Bib bib.0 op (All-contains (λ (b : Block). IsBytes b.body) (revealed s) bib.0 opened at) bib.2)
    ]

pub all_found_known : (s : Situation) (op : OpId) → BodiesAreBytes s.bundle.blocks → IsKnown s.bundle.blocks op → Contains (all_operations s) op
all_found_known s op small is =
    contains (all_operations s) op (all_known s op (among (known s.bundle.blocks) op (known_found s.bundle.blocks op (all_held s.bundle.blocks small).0 is)))

pub all_found_revealed : (s : Situation) (block : Block) (op : OpId) → op.service ≡ Bib → Contains (revealed s) block → IsHeldBy op block → Contains (all_operations s) op
all_found_revealed s block op service there held =
    contains (all_operations s) op (all_revealed s block op (among (revealed s) block there) (subst (λ (x : Service). Among op (held_by x block)) service (held_found block op held)))
