use Rattle.cbor_profile.proofs.Tokens.{token_again, token_means}
use Rattle.cbor_profile.proofs.laws.tokens_are_read_as_spelled.Goals as goal

pub returns-clause-again : goal.returns-clause-again
returns-clause-again c = λ kinds head rest h among. token_again kinds head rest h among

pub returns-clause-means : goal.returns-clause-means
returns-clause-means c = λ kinds bytes head rest fits e. token_means kinds bytes head rest fits e
