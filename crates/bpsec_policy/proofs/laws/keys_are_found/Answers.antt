use Rattle.bpsec_policy.specs.Ring.{is_ring}
use Rattle.bpsec_policy.proofs.Keys.{is_found, found_means}
use Rattle.bpsec_policy.proofs.Steps.{both_true}
use Rattle.bpsec_policy.proofs.laws.keys_are_found.Goals as goal

pub returns-clause-found : goal.returns-clause-found
unfolding is_ring
returns-clause-found c = λ keys i k ring at. is_found keys i k (both_true _ _ (both_true _ _ ring).1).1 at

pub returns-clause-means : goal.returns-clause-means
returns-clause-means c = found_means
