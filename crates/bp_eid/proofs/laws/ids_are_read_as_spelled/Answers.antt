use Rattle.bp_eid.proofs.Tokens.{TokenLaws}
use Rattle.bp_eid.proofs.Ids.{id_again, id_means}
use Rattle.bp_eid.proofs.laws.ids_are_read_as_spelled.Goals as goal

pub returns-clause-again : goal.returns-clause-again
returns-clause-again c = λ eid rest fits.
    let laws : TokenLaws = record { again = c.tokens_are_read_as_spelled.ensures.again; means = c.tokens_are_read_as_spelled.ensures.means } in
    id_again laws eid rest fits

pub returns-clause-means : goal.returns-clause-means
returns-clause-means c = λ bytes eid rest fits e.
    let laws : TokenLaws = record { again = c.tokens_are_read_as_spelled.ensures.again; means = c.tokens_are_read_as_spelled.ensures.means } in
    id_means laws bytes (eid, rest) fits e
