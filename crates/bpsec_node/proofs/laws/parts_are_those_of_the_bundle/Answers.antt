use Rattle.bpsec_node.proofs.PartsOf.{parts_are, integrity_parts, confidentiality_parts}
use Rattle.bpsec_node.proofs.laws.parts_are_those_of_the_bundle.Goals as goal

pub returns-clause-means : goal.returns-clause-means
returns-clause-means c = λ bundle op is. parts_are bundle op is

pub returns-clause-integrity : goal.returns-clause-integrity
returns-clause-integrity c = λ bundle op is service. integrity_parts bundle op is service

pub returns-clause-confidentiality : goal.returns-clause-confidentiality
returns-clause-confidentiality c = λ bundle op block is service there e. confidentiality_parts bundle op block is service there e
