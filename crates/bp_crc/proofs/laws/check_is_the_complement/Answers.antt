use Rattle.std.proofs.Common.{List, Bool, not, map, sym, ap}
use Rattle.bp_crc.specs.Check.{check, dividend, generator, number_of}
use Rattle.bp_crc.proofs.Quotient.{IsDivision-remainder}
use Rattle.bp_crc.proofs.laws.check_is_the_complement.Goals as goal

pub returns : goal.returns
unfolding check
returns c = λ w bytes r division.
    ap (λ (x : List Bool). number_of (map not x)) (sym (IsDivision-remainder (generator w) (dividend w bytes) r division))
