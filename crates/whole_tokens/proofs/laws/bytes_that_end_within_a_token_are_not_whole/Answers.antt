use Rattle.whole_tokens.proofs.Apart.{HeadLaws, last_where_whole}
use Rattle.whole_tokens.proofs.laws.bytes_that_end_within_a_token_are_not_whole.Goals as goal

pub returns : goal.returns
returns c = λ parts rest are less whole.
    let laws : HeadLaws = record { one = c.heads_have_one_spelling.ensures; again = c.heads_are_read_as_spelled.ensures.again } in
    last_where_whole laws parts rest are less whole
