use Rattle.std.proofs.Common.{◌≡◌, length, ap, arith}
use Rattle.bp_eid.specs.declared.stop.Stop.{Stop}
use Rattle.bp_status.proofs.Within.{rest_within, stop_within}
use Rattle.bp_status.proofs.reading.whole.Goals as goal

pub fault-requires : goal.fault-requires
fault-requires c =
    let h = rest_within c.args.body.now (c.in-Ok.field-0-0, c.in-Ok.rest.now) c.in-Ok.ensures in
    let left : c.stops.result.left ≡ length c.in-Ok.rest.now = ap (λ (s : Stop). s.left) c.stops.ensures in
    omega arith

pub fault-requires-in-Err-Stop : goal.fault-requires-in-Err-Stop
fault-requires-in-Err-Stop c = stop_within c.args.body.now c.in-Err-Stop.stop (rw c.in-Err-Stop.field-0-is at c.in-Err-Stop.ensures)
