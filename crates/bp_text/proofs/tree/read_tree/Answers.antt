use Rattle.std.proofs.Common.{arith}
use Rattle.bp_text.proofs.Trees.{no_text, is_tree}
use Rattle.bp_text.proofs.tree.read_tree.Goals as goal

pub returns-in_default : goal.returns-in_default
returns-in_default c = rw c.refused-in_default.ensures (no_text c.args.bytes.now (omega arith) c.in_default.ensures.cases.0)

pub returns-in-Ok-from_str : goal.returns-in-Ok-from_str
returns-in-Ok-from_str c =
    is_tree c.args.bytes.now c.in-Ok.text.now _ (omega arith) c.in-Ok.ensures.cases.1 c.in-Ok.ensures.cases.0 c.in-Ok-from_str.ensures.ok
