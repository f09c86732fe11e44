use Rattle.bpsec_asb.proofs.Stays.{fault_stays, trailing}
use Rattle.bpsec_asb.proofs.laws.faults_stay_the_same.Goals as goal

pub returns-clause-fault : goal.returns-clause-fault
returns-clause-fault c = λ body more fault e other. fault_stays body more fault e other

pub returns-clause-trailing : goal.returns-clause-trailing
returns-clause-trailing c = λ asb byte more fits. trailing asb byte more fits
