use Rattle.cbor_profile.proofs.Heads.{read-spelling, read-means}
use Rattle.cbor_profile.proofs.laws.heads_are_read_as_spelled.Goals as goal

pub returns-clause-again : goal.returns-clause-again
returns-clause-again c = λ head rest h. read-spelling head rest h

pub returns-clause-means : goal.returns-clause-means
returns-clause-means c = λ bytes head len fits e. read-means bytes head len fits e
