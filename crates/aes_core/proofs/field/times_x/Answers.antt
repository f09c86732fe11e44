use Rattle.std.proofs.Common.{arith}
use Rattle.aes_core.proofs.FieldLemmas.{times_x_is}
use Rattle.aes_core.proofs.field.times_x.Goals as goal

pub returns : goal.returns
returns c = times_x_is c.args.a (omega arith)
