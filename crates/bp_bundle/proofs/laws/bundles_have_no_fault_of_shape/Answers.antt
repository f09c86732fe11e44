use Rattle.bp_bundle.proofs.NoFaultOfShape.{bundle_no_fault}
use Rattle.bp_bundle.proofs.laws.bundles_have_no_fault_of_shape.Goals as goal

pub returns : goal.returns
returns c = bundle_no_fault
