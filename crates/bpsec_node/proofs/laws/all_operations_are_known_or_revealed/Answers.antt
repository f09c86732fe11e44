use Rattle.bpsec_node.proofs.Known.{all_means, all_found_known, all_found_revealed}
use Rattle.bpsec_node.proofs.laws.all_operations_are_known_or_revealed.Goals as goal

pub returns-clause-means : goal.returns-clause-means
returns-clause-means c = λ s op is small opened there. all_means s op is.distinct small opened there

pub returns-clause-known : goal.returns-clause-known
returns-clause-known c = λ s op small known. all_found_known s op small known

pub returns-clause-revealed : goal.returns-clause-revealed
returns-clause-revealed c = λ s block op service there held. all_found_revealed s block op service there held
