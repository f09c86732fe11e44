use Rattle.std.proofs.Common.{◌≡◌, true, arith, sym, subst}
use Rattle.std.proofs.lemmas.Grind.{common_steps}
use Rattle.std.specs.Prelude.{not}
use Rattle.std.specs.BTreeSet.{contains}
use Rattle.std.specs.Ordering.{nat_cmp}
use Rattle.bpsec_asb.specs.declared.operation.Service.TheVariants.{Bib}
use Rattle.bp_blocks.specs.declared.block.Block.{Block}
use Rattle.bpsec_asb.specs.Known.{ListsHeld}
use Rattle.bpsec_asb.proofs.KnownList.{held-more, not_both}
use Rattle.bpsec_asb.proofs.known.add_visible.Goals as goal
use Rattle.bpsec_asb.proofs.known.add_visible.Goals.{then-not-contains+in_ok-add_held, else-not-contains}

pub loop-block-preserved : goal.loop-block-preserved
loop-block-preserved c = record {
  keys = grind (arith, common_steps);
  held = held-more (ListsHeld Bib) (λ block. not (contains nat_cmp c.args.targeted.now block.number)) c.args.blocks.now c.loop-block.block-index c.block-item.result c.loop-block-test.true c.loop-block.invariant.held (λ passes.
      elim c.if-not-contains.branch [
        | then-not-contains+in_ok-add_held w ↦ subst (ListsHeld Bib) c.block-item.is w.in_ok-add_held.ensures.held
        | else-not-contains w ↦
            let visible : not (contains nat_cmp c.args.targeted.now c.block-item.result.number) ≡ true = subst (λ (b : Block). not (contains nat_cmp c.args.targeted.now b.number) ≡ true) (sym c.block-item.is) passes in
            absurd (not_both _ w.if-not-contains.ensures visible)
      ]);
}
