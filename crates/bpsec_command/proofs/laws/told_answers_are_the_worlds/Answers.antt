use Rattle.bpsec_command.specs.Answer.{job}
use Rattle.bpsec_command.proofs.ToldWorldAnswers.{world_ends}
use Rattle.bpsec_command.proofs.laws.told_answers_are_the_worlds.Goals as goal

pub returns : goal.returns
returns c = λ devices world words due tells ends. world_ends devices world tells (job words) due ends
