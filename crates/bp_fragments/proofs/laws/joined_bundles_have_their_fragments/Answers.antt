use Rattle.bp_fragments.proofs.Parts.{has_parts, one_bundle}
use Rattle.bp_fragments.proofs.laws.joined_bundles_have_their_fragments.Goals as goal

pub returns-clause-means : goal.returns-clause-means
returns-clause-means c = has_parts

pub returns-clause-one : goal.returns-clause-one
returns-clause-one c = one_bundle
