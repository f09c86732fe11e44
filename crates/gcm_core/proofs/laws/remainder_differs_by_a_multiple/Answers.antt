use Rattle.gcm_core.proofs.Remainders.{remainder_exact}
use Rattle.gcm_core.proofs.laws.remainder_differs_by_a_multiple.Goals as goal

pub returns : goal.returns
returns c = remainder_exact
