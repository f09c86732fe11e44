use Rattle.bp_primary.proofs.OneSpelling.{one_primary}
use Rattle.bp_primary.proofs.laws.primary_blocks_have_one_spelling.Goals as goal

pub returns : goal.returns
returns c = λ a b x y fits fits' e. one_primary c.heads_have_one_spelling.ensures c.ids_have_one_spelling.ensures a b x y fits fits' e
