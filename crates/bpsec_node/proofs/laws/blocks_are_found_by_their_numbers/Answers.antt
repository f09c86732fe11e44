use Rattle.std.proofs.Common.{refl}
use Rattle.bpsec_node.proofs.PartsOf.{block_means, block_found}
use Rattle.bpsec_node.proofs.laws.blocks_are_found_by_their_numbers.Goals as goal

pub returns-clause-means : goal.returns-clause-means
returns-clause-means c = λ blocks number block is. block_means blocks number block is

pub returns-clause-found : goal.returns-clause-found
returns-clause-found c = λ bundle block is there. block_found bundle block.number block is there refl
