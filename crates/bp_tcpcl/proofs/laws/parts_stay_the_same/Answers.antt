use Rattle.bp_tcpcl.proofs.Growing.{part_stays, fault_stays}
use Rattle.bp_tcpcl.proofs.laws.parts_stay_the_same.Goals as goal

pub returns-clause-part : goal.returns-clause-part
returns-clause-part c = λ opened place bytes more item after is. part_stays opened place bytes more (item, after) is

pub returns-clause-fault : goal.returns-clause-fault
returns-clause-fault c = fault_stays
