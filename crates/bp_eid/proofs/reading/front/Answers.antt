use Rattle.std.proofs.Common.{arith}
use Rattle.bp_eid.proofs.Within.{rest_within, stop_within}
use Rattle.bp_eid.proofs.reading.front.Goals as goal

pub overflow_sub-result : goal.overflow_sub-result
overflow_sub-result c = rest_within c.args.bytes.now (c.in-Ok.eid, c.in-Ok.rest.now) c.in-Ok.ensures

pub fault-requires : goal.fault-requires
fault-requires c = stop_within c.args.bytes.now c.in-Err-Stop.stop (rw c.in-Err-Stop.field-0-is at c.in-Err-Stop.ensures)
