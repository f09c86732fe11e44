use Rattle.bp_eid.proofs.Within.{rest_within, stop_within}
use Rattle.bp_eid.proofs.laws.reading_stays_within.Goals as goal

pub returns-clause-rest : goal.returns-clause-rest
returns-clause-rest c = λ bytes eid rest e. rest_within bytes (eid, rest) e

pub returns-clause-stop : goal.returns-clause-stop
returns-clause-stop c = λ bytes stop e. stop_within bytes stop e
