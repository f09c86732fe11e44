use Rattle.bpsec_node.proofs.Alike.{outcome_by_done, alike_outcome, alike_done, alike_verdict}
use Rattle.bpsec_node.proofs.laws.equal_keys_give_equal_outcomes.Goals as goal

pub returns-clause-keys : goal.returns-clause-keys
returns-clause-keys c = λ s key done is none agree. outcome_by_done s key done is.distinct none agree

pub returns-clause-outcome : goal.returns-clause-outcome
returns-clause-outcome c = λ suite p q alike is none. alike_outcome suite p q alike is.distinct none

pub returns-clause-done : goal.returns-clause-done
returns-clause-done c = λ suite p q alike op p_legal p_none q_legal q_none. alike_done suite p q alike op p_legal p_none q_legal q_none

pub returns-clause-verdict : goal.returns-clause-verdict
returns-clause-verdict c = λ suite p q alike op legal there. alike_verdict suite p q alike op legal there
