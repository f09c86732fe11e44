use Rattle.gf2_polynomial.proofs.Sums.{coefficient-sum}
use Rattle.gf2_polynomial.proofs.laws.sum_has_the_sums_of_the_coefficients.Goals as goal

pub returns : goal.returns
returns c = coefficient-sum
