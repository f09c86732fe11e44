use Rattle.bpsec_secure.proofs.LawLemmas.{blocks_are, numbers_are}
use Rattle.bpsec_secure.proofs.laws.new_blocks_stand_before_the_payload.Goals as goal

pub returns-clause-blocks : goal.returns-clause-blocks
returns-clause-blocks c = blocks_are

pub returns-clause-numbers : goal.returns-clause-numbers
returns-clause-numbers c = numbers_are
