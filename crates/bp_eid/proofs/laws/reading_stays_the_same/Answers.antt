use Rattle.bp_eid.proofs.Growing.{id_stays, stop_stays}
use Rattle.bp_eid.proofs.laws.reading_stays_the_same.Goals as goal

pub returns-clause-id : goal.returns-clause-id
returns-clause-id c = λ bytes more eid rest is. id_stays bytes more (eid, rest) is

pub returns-clause-stop : goal.returns-clause-stop
returns-clause-stop c = λ bytes more stop is other. stop_stays bytes more stop is other
