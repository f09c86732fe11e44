use Rattle.bpsec_context.proofs.ValueLemmas.{number_again, number_means}
use Rattle.bpsec_context.proofs.laws.numbers_are_read_as_spelled.Goals as goal

pub returns-clause-again : goal.returns-clause-again
returns-clause-again c = number_again c.heads_are_read_as_spelled.ensures.again

pub returns-clause-means : goal.returns-clause-means
returns-clause-means c = number_means c.heads_are_read_as_spelled.ensures.means
