use Rattle.bpsec_node.proofs.Results.{resulting_bundle, resulting_shrunk}
use Rattle.bpsec_node.proofs.laws.resulting_bundles_are_bundles.Goals as goal

pub returns-clause-bundle : goal.returns-clause-bundle
returns-clause-bundle c = λ s never is small kept. resulting_bundle s never is small kept

pub returns-clause-blocks : goal.returns-clause-blocks
returns-clause-blocks c = λ s never is small kept. resulting_shrunk s never is small kept
