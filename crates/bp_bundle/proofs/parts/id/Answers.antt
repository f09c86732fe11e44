use Rattle.std.proofs.Common.{◌≡◌, ◌≤◌, length, Result, Err, arith}
use Rattle.bp_eid.specs.Reading.{read_id}
use Rattle.bp_bundle.proofs.LeftIsLess.{id_fault_within}
use Rattle.bp_bundle.proofs.parts.id.Goals as goal

pub overflow_add-result : goal.overflow_add-result
overflow_add-result c =
    let exact = rw c.in-Err-Fault.field-0-is at c.in-Err-Fault.ensures in
    let within = id_fault_within c.args.here.rest.now c.in-Err-Fault.fault exact.exact in
    omega (arith, within, c.args.here.fits)
