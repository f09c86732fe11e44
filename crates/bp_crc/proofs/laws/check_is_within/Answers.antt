use Rattle.bp_crc.proofs.Register.{check-lt}
use Rattle.bp_crc.proofs.laws.check_is_within.Goals as goal

pub returns : goal.returns
returns c = λ w bytes _. check-lt w bytes
