use Rattle.bpsec_command.proofs.NumberOfDigits.{number_is}
use Rattle.bpsec_command.proofs.grammar.number_of.Goals as goal

pub returns : goal.returns
returns c = number_is _ _ c.number_of.ensures
