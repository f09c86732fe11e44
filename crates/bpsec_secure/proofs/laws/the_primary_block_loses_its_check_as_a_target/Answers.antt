use Rattle.bpsec_secure.proofs.LawLemmas.{primary_unchecked, primary_stays}
use Rattle.bpsec_secure.proofs.laws.the_primary_block_loses_its_check_as_a_target.Goals as goal

pub returns-clause-target : goal.returns-clause-target
returns-clause-target c = primary_unchecked

pub returns-clause-stays : goal.returns-clause-stays
returns-clause-stays c = primary_stays
