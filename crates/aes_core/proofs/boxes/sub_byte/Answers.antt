use Rattle.std.proofs.Common.{arith}
use Rattle.aes_core.proofs.BoxTables.{S_BOX_at}
use Rattle.aes_core.proofs.boxes.sub_byte.Goals as goal

pub returns : goal.returns
returns c = S_BOX_at c.args.b (omega arith)
