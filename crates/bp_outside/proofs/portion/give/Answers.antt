use Rattle.std.proofs.Common.{drop, length-take, ◌∙◌, arith}
use Rattle.std.proofs.lemmas.List.{take_rest}
use Rattle.bp_outside.proofs.Pieces.{given_parts}
use Rattle.bp_outside.proofs.portion.give.Goals as goal

pub returns-clause-moved : goal.returns-clause-moved
returns-clause-moved c =
    given_parts c.args.bytes.now c.copy_from_slice.new.self (drop c.min-n.result c.args.buf.now)
    c.args.given c.min-n.result
    (c.copy_from_slice.ensures.len ∙ simp length-take (omega arith))
    (rw take_rest at c.copy_from_slice.ensures.after)
