use Rattle.bp_crc.proofs.Quotient.{remainder-IsDivision, IsDivision-remainder}
use Rattle.bp_crc.proofs.laws.division_is_exact.Goals as goal

pub returns-clause-exact : goal.returns-clause-exact
returns-clause-exact c = remainder-IsDivision

pub returns-clause-only : goal.returns-clause-only
returns-clause-only c = IsDivision-remainder
