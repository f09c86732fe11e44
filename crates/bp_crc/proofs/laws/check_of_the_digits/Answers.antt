-- Both are computed by long division.
use Rattle.std.proofs.Common.{refl}
use Rattle.bp_crc.specs.Polynomial.{reduced, divided, remainder}
use Rattle.bp_crc.specs.Check.{bits_of, number_of, generator, message_bits, dividend, check}
use Rattle.bp_crc.proofs.laws.check_of_the_digits.Goals as goal

pub returns-clause-crc_16 : goal.returns-clause-crc_16
unfolding check dividend generator message_bits bits_of number_of remainder divided reduced
returns-clause-crc_16 c = refl

pub returns-clause-crc_32c : goal.returns-clause-crc_32c
unfolding check dividend generator message_bits bits_of number_of remainder divided reduced
returns-clause-crc_32c c = refl
