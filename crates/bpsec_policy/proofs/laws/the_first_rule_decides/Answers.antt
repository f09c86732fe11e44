use Rattle.bpsec_policy.proofs.Matched.{first_rule}
use Rattle.bpsec_policy.proofs.laws.the_first_rule_decides.Goals as goal

pub returns : goal.returns
returns c = λ policy op. first_rule policy.rules op policy.default_rule
