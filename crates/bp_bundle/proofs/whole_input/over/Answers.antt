use Rattle.bp_bundle.proofs.OneBundleInputs.{over_whole, over_early}
use Rattle.bp_bundle.proofs.whole_input.over.Goals as goal

pub returns-in-Ok-clause-means : goal.returns-in-Ok-clause-means
returns-in-Ok-clause-means c = λ before now has none. over_whole c.bundles_are_read_as_spelled.ensures.again before now _ _ has c.in-Ok.ensures.shape (c.in-Ok.ensures.means has.taken has.took) none

pub returns-in-Err-clause-means : goal.returns-in-Err-clause-means
returns-in-Err-clause-means c = λ before now has none. rw c.from.ensures (over_early before now _ _ has (c.in-Err.ensures.means has.taken has.took) none)
