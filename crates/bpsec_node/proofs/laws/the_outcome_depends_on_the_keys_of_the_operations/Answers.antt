use Rattle.bpsec_node.proofs.OutcomeSame.{outcome_same}
use Rattle.bpsec_node.proofs.laws.the_outcome_depends_on_the_keys_of_the_operations.Goals as goal

pub returns : goal.returns
returns c = λ s key is agree. outcome_same s key is.distinct agree
