use Rattle.bp_eid.proofs.Tokens.{TokenLaws}
use Rattle.bp_eid.proofs.Ids.{one_spelling}
use Rattle.bp_eid.proofs.laws.ids_have_one_spelling.Goals as goal

pub returns : goal.returns
returns c = λ a b x y ha hb e.
    let laws : TokenLaws = record { again = c.tokens_are_read_as_spelled.ensures.again; means = c.tokens_are_read_as_spelled.ensures.means } in
    one_spelling laws a b x y ha hb e
