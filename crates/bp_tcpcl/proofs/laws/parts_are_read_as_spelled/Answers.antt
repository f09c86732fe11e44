use Rattle.bp_tcpcl.proofs.Spelled.{part_means}
use Rattle.bp_tcpcl.proofs.Parts.{part_again}
use Rattle.bp_tcpcl.proofs.laws.parts_are_read_as_spelled.Goals as goal

pub returns-clause-again : goal.returns-clause-again
returns-clause-again c = part_again

pub returns-clause-means : goal.returns-clause-means
returns-clause-means c = λ opened place bytes item after fits e. part_means opened place bytes (item, after) fits e
