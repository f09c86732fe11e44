use Rattle.std.proofs.Common.{[], ◌∷◌, ap, sym, ◌∙◌}
use Rattle.bp_bundle.specs.Shape.{Contents}
use Rattle.bpsec_plan.specs.declared.item.Item.{Item}
use Rattle.bpsec_facts.specs.View.{facts}
use Rattle.bpsec_facts.proofs.ShortLemmas.{bundle_short}
use Rattle.bpsec_mac.proofs.PassedLemmas.{passed}
use Rattle.bpsec_mac.proofs.ShapeOfMac.{has_shape}
use Rattle.bpsec_mac.proofs.adding.decided.Goals as goal

pub parts-requires-clause-key : goal.parts-requires-clause-key
parts-requires-clause-key c =
    (passed (facts c.args.case.now) c.args.cover.now (sym c.in_ok-refusal.ensures ∙ c.in_default.is)).1

pub parts-requires-clause-bodies : goal.parts-requires-clause-bodies
parts-requires-clause-bodies c =
    let bundle : Contents = record { primary = c.args.case.now.primary.now; blocks = c.args.case.now.blocks.now } in
    bundle_short bundle c.requires.bundle

pub bundle_of-requires : goal.bundle_of-requires
bundle_of-requires c =
    let bundle : Contents = record { primary = c.args.case.now.primary.now; blocks = c.args.case.now.blocks.now } in
    let none = sym c.in_ok-refusal.ensures ∙ c.in_default.is in
    let has = has_shape (facts c.args.case.now) c.args.cover.now c.args.target (c.requires.items ∙ ap (λ (x : Item). x ∷ []) c.requires.item)
    (passed (facts c.args.case.now) c.args.cover.now none).0 (c.bundles_have_no_fault_of_shape.ensures bundle c.requires.bundle) in
    rw (← c.in_ok-primary.ensures) at has
