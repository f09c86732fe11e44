use Rattle.bp_blocks.proofs.OneSpelling.{one_block}
use Rattle.bp_blocks.proofs.laws.blocks_have_one_spelling.Goals as goal

pub returns : goal.returns
returns c = λ a b x y fits fits' e. one_block c.heads_have_one_spelling.ensures a b x y fits fits' e
