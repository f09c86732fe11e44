use Rattle.std.proofs.Common.{arith}
use Rattle.gcm_core.proofs.SubkeyLemmas.{times_x_4_is}
use Rattle.gcm_core.proofs.subkey.times_x_4.Goals as goal

pub returns : goal.returns
returns c = times_x_4_is c.args.block (omega arith)
