use Rattle.std.proofs.Common.{arith}
use Rattle.aes_core.proofs.BoxTables.{INVERSE_S_BOX_at}
use Rattle.aes_core.proofs.boxes.inverse_sub_byte.Goals as goal

pub returns : goal.returns
returns c = INVERSE_S_BOX_at c.args.b (omega arith)
