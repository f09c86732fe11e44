use Rattle.std.proofs.Common.{arith}
use Rattle.aes_core.proofs.TableLemmas.{mixed_sum}
use Rattle.aes_core.proofs.tables.mixed_column.Goals as goal

pub returns : goal.returns
returns c =
    rw (c.rotate_left.ensures, c.rotate_left-2.ensures, c.rotate_left-3.ensures)
    (mixed_sum c.args.column (omega arith) (omega arith) (omega arith) (omega arith))
