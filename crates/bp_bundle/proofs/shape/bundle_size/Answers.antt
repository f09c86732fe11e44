use Rattle.std.proofs.Common.{◌≡◌, ◌∙◌, sym}
use Rattle.bp_bundle.specs.Shape.{Contents}
use Rattle.bp_bundle.specs.Faults.{shape_fault}
use Rattle.bp_bundle.proofs.NoFaultOfShape.{bundle_no_fault, is_bundle_by, fault_by}
use Rattle.bp_bundle.proofs.shape.bundle_size.Goals as goal

pub returns-in-None-clause-ok : goal.returns-in-None-clause-ok
returns-in-None-clause-ok c =
    is_bundle_by (record { primary = c.args.primary.now; blocks = c.args.blocks.now }) c.spelled_size-size.result c.spelled_size-size.ensures.size c.spelled_size-size.ensures.primary c.spelled_size-size.ensures.blocks c.in-None.ensures

pub returns-in-None-clause-exact : goal.returns-in-None-clause-exact
returns-in-None-clause-exact c =
    fault_by (record { primary = c.args.primary.now; blocks = c.args.blocks.now }) c.spelled_size-size.result c.spelled_size-size.ensures.size ∙ sym c.in-None.ensures

pub returns-in-Some-clause-exact : goal.returns-in-Some-clause-exact
returns-in-Some-clause-exact c =
    fault_by (record { primary = c.args.primary.now; blocks = c.args.blocks.now }) c.spelled_size-size.result c.spelled_size-size.ensures.size ∙ sym c.in-Some.ensures

pub returns-in-Some-clause-found : goal.returns-in-Some-clause-found
returns-in-Some-clause-found c = λ is.
    let bundle : Contents = record { primary = c.args.primary.now; blocks = c.args.blocks.now } in
    let none : shape_fault bundle ≡ _ = bundle_no_fault bundle is in
    let some = fault_by bundle c.spelled_size-size.result c.spelled_size-size.ensures.size ∙ sym c.in-Some.ensures in
    absurd cc
