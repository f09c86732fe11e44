use Rattle.bp_tcpcl.proofs.Parts.{one_spelling}
use Rattle.bp_tcpcl.proofs.laws.parts_have_one_spelling.Goals as goal

pub returns : goal.returns
returns c = one_spelling
