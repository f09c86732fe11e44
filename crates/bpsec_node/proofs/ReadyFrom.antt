-- The ready operations, from those that are known and the blocks that are sealed.
use Rattle.std.proofs.Common.{◌≡◌, ℕ, inl, inr, ◌⊎◌, Bool, true, false, ◌&&◌, ◌||◌, not, List, [], refl, sym, ◌∙◌, ap}
use Rattle.std.specs.Prelude.{filter}
use Rattle.bpsec_asb.specs.declared.operation.OpId.{OpId}
use Rattle.bpsec_asb.specs.Operations.{NumbersAreDistinct}
use Rattle.bpsec_asb.specs.Order.{op_cmp}
use Rattle.bpsec_asb.proofs.Members.{Among, among-filter, from-filter, from-set, among-set}
use Rattle.bpsec_asb.proofs.Ordered.{op_cmp_exact, op_cmp_total, sorted_set, sorted_none, same_sorted}
use Rattle.bpsec_node.specs.Situation.{Situation, is_among}
use Rattle.bpsec_node.specs.Verdict.{is_bib}
use Rattle.bpsec_node.specs.Order.{is_free, is_ready, ready}
use Rattle.bpsec_node.specs.Session.{has, is_operation, is_shown}
use Rattle.bpsec_node.specs.Lists.{clear_of, ready_among}
use Rattle.bpsec_node.proofs.Members.{both, both_true, from_is_among, is_among_from, ready_sorted, from_ready, among_ready}
use Rattle.bpsec_node.proofs.Operations.{operation_if_among, among_if_operation}

not_not : (b : Bool) → not (not b) ≡ b
not_not true = refl
not_not false = refl

shown_if_clear : (bib block target : Bool) → (not bib || (block && target)) ≡ true → (not bib || block) ≡ true
shown_if_clear false block target e = refl
shown_if_clear true true target e = refl
shown_if_clear true false target e = absurd cc

module _ (s : Situation) (done : List OpId) (sealed : List ℕ) (open_ops : List OpId) (distinct : NumbersAreDistinct s.bundle.blocks)
    (sealed_is : (number : ℕ) → has sealed number ≡ not (is_free s.bundle.blocks done number))
    (open_is : (op : OpId) → is_among open_ops op ≡ (is_operation s op && (is_shown s.bundle.blocks done op && not (is_among done op)))) where
  free : (number : ℕ) → not (has sealed number) ≡ is_free s.bundle.blocks done number
  free number = ap not (sealed_is number) ∙ not_not (is_free s.bundle.blocks done number)

  clear : (op : OpId) → clear_of sealed op ≡ (not (is_bib op.service) || (is_free s.bundle.blocks done op.block && is_free s.bundle.blocks done op.target))
  clear op =
      ap (λ b. not (is_bib op.service) || (b && not (has sealed op.target))) (free op.block)
      ∙ ap (λ b. not (is_bib op.service) || (is_free s.bundle.blocks done op.block && b)) (free op.target)

  to : (op : OpId) → Among op (ready_among sealed open_ops) → Among op (ready s done)
  unfolding is_ready
  to op there =
      by (from-set op_cmp (filter (clear_of sealed) open_ops) [] op there)
    where
      by : Among op [] ⊎ Among op (filter (clear_of sealed) open_ops) → Among op (ready s done)
      by (inl none) = absurd none
      by (inr kept) =
          let k = from-filter (clear_of sealed) open_ops op kept in
          let o = both (is_operation s op) (is_shown s.bundle.blocks done op && not (is_among done op)) (sym (open_is op) ∙ is_among_from open_ops op k.0) in
          let u = both (is_shown s.bundle.blocks done op) (not (is_among done op)) o.1 in
          among_ready s done op (among_if_operation s op distinct o.0)
          (both_true (not (is_among done op)) (not (is_bib op.service) || (is_free s.bundle.blocks done op.block && is_free s.bundle.blocks done op.target)) u.1 (sym (clear op) ∙ k.1))

  from : (op : OpId) → Among op (ready s done) → Among op (ready_among sealed open_ops)
  unfolding is_ready is_shown
  from op there =
      let r = from_ready s done op there in
      let t = both (not (is_among done op)) (not (is_bib op.service) || (is_free s.bundle.blocks done op.block && is_free s.bundle.blocks done op.target)) r.1 in
      let known : is_among open_ops op ≡ true = open_is op ∙ both_true (is_operation s op) (is_shown s.bundle.blocks done op && not (is_among done op)) (operation_if_among s op distinct r.0)
      (both_true (not (is_bib op.service) || is_free s.bundle.blocks done op.block) (not (is_among done op)) (shown_if_clear (is_bib op.service) (is_free s.bundle.blocks done op.block) (is_free s.bundle.blocks done op.target) t.1) t.0) in
      among-set op_cmp op_cmp_exact (filter (clear_of sealed) open_ops) [] op (among-filter (clear_of sealed) open_ops op (from_is_among open_ops op known) (clear op ∙ t.1))

  pub ready_from : ready_among sealed open_ops ≡ ready s done
  ready_from = same_sorted op_cmp op_cmp_total (ready_among sealed open_ops) (ready s done) (sorted_set op_cmp op_cmp_total (filter (clear_of sealed) open_ops) [] (sorted_none op_cmp)) (ready_sorted s done) to from
