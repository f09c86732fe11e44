use Rattle.bp_eid.proofs.Answered.{at_stays, fault_stays}
use Rattle.bp_eid.proofs.laws.answers_stay_the_same.Goals as goal

pub returns-clause-id : goal.returns-clause-id
returns-clause-id c = at_stays

pub returns-clause-fault : goal.returns-clause-fault
returns-clause-fault c = fault_stays
