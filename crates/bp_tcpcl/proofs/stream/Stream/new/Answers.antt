use Rattle.std.proofs.Common.{false, arith}
use Rattle.bp_tcpcl.proofs.Links.{empty_waits, took_nothing}
use Rattle.bp_tcpcl.proofs.stream.Stream.new.Goals as goal

pub invariant_of-result : goal.invariant_of-result
invariant_of-result c = (omega arith, empty_waits false 0 c.new.result c.new.ensures)

pub returns-clause-took : goal.returns-clause-took
returns-clause-took c = took_nothing c.new.result c.new.ensures
