use Rattle.bpsec_context.specs.OnlyTag.{content_of_string}
use Rattle.bpsec_context.proofs.ValueLemmas.{content_means}
use Rattle.bpsec_context.proofs.laws.byte_strings_are_read_as_spelled.Goals as goal

pub returns-clause-again : goal.returns-clause-again
returns-clause-again c = content_of_string

pub returns-clause-means : goal.returns-clause-means
returns-clause-means c = content_means c.heads_are_read_as_spelled.ensures.means
