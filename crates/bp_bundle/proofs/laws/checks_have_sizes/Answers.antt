use Rattle.bp_bundle.proofs.CheckSizes.{primary_check_size, block_check_size, no_check_is_shortest}
use Rattle.bp_bundle.proofs.laws.checks_have_sizes.Goals as goal

pub returns-clause-primary : goal.returns-clause-primary
returns-clause-primary c = primary_check_size

pub returns-clause-block : goal.returns-clause-block
returns-clause-block c = block_check_size

pub returns-clause-none : goal.returns-clause-none
returns-clause-none c = no_check_is_shortest
