use Rattle.bp_status.proofs.Stays.{fault_stays, trailing}
use Rattle.bp_status.proofs.laws.faults_stay_the_same.Goals as goal

pub returns-clause-fault : goal.returns-clause-fault
returns-clause-fault c = λ body more fault e other. fault_stays body more fault e other

pub returns-clause-trailing : goal.returns-clause-trailing
returns-clause-trailing c = λ report byte more fits. trailing report byte more fits
