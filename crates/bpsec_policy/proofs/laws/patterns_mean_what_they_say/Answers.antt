use Rattle.bpsec_policy.proofs.Matched.{matches-Decides}
use Rattle.bpsec_policy.proofs.laws.patterns_mean_what_they_say.Goals as goal

pub returns : goal.returns
returns c = λ p op. matches-Decides p op
