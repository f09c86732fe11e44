use Rattle.std.proofs.Common.{arith}
use Rattle.gcm_core.proofs.BitsLemmas.{times_x_odd, times_x_even}
use Rattle.gcm_core.proofs.subkey.times_x.Goals as goal

pub returns-then-block-eq1 : goal.returns-then-block-eq1
returns-then-block-eq1 c = times_x_odd c.args.block (omega arith) c.if-block-eq1.true

pub returns-else-block-eq1 : goal.returns-else-block-eq1
returns-else-block-eq1 c = times_x_even c.args.block (omega arith) c.if-block-eq1.false
