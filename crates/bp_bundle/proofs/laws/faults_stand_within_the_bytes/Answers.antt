use Rattle.bp_bundle.proofs.StatesGoOn.{fault_within}
use Rattle.bp_bundle.proofs.laws.faults_stand_within_the_bytes.Goals as goal

pub returns : goal.returns
returns c = fault_within
