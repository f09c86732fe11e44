use Rattle.std.proofs.Common.{arith}
use Rattle.bp_tcpcl.proofs.stream.Stream.finish.Goals as goal

pub overflow_add-result : goal.overflow_add-result
overflow_add-result c = let room = c.self.invariant.0 in omega arith
