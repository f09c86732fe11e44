use Rattle.std.proofs.Common.{◌∙◌, sym}
use Rattle.bp_bundle.specs.Shape.{Contents}
use Rattle.bpsec_facts.specs.View.{facts}
use Rattle.bpsec_secure.proofs.Passed.{passed, all_usable}
use Rattle.bpsec_facts.proofs.ShortLemmas.{bundle_short}
use Rattle.bpsec_secure.proofs.ShapeLemmas.{has_shape}
use Rattle.bpsec_secure.proofs.securing.decided.Goals as goal

pub applied-requires-clause-usable : goal.applied-requires-clause-usable
applied-requires-clause-usable g c =
    all_usable (facts c.args.case.now) (passed (facts c.args.case.now) (sym c.in_ok-refusal.ensures ∙ c.in_default.is)) c.requires.plan c.requires.ring

pub applied-requires-clause-bodies : goal.applied-requires-clause-bodies
applied-requires-clause-bodies g c =
    let bundle : Contents = record { primary = c.args.case.now.primary.now; blocks = c.args.case.now.blocks.now } in
    bundle_short bundle c.requires.bundle

pub applied-requires-clause-shape : goal.applied-requires-clause-shape
applied-requires-clause-shape g c =
    let bundle : Contents = record { primary = c.args.case.now.primary.now; blocks = c.args.case.now.blocks.now } in
    has_shape (facts c.args.case.now) (passed (facts c.args.case.now) (sym c.in_ok-refusal.ensures ∙ c.in_default.is)) (c.bundles_have_no_fault_of_shape.ensures bundle c.requires.bundle)
