use Rattle.bpsec_context.proofs.FirstLemmas.{first_some, none_fails, fails_none}
use Rattle.bpsec_context.proofs.laws.the_first_reason_that_holds.Goals as goal

pub returns-clause-some : goal.returns-clause-some
returns-clause-some c = first_some

pub returns-clause-none : goal.returns-clause-none
returns-clause-none c = λ table. (none_fails table, fails_none table)
