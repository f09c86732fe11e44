use Rattle.std.proofs.Common.{arith}
use Rattle.bp_eid.specs.Step.{eid_of}
use Rattle.bp_eid.proofs.reading.id.Goals as goal

pub owned-requires : goal.owned-requires
owned-requires c = (c.ids_are_read_as_spelled.ensures.means c.args.bytes.now (eid_of c.in-Ok.found) c.in-Ok.rest.now (λ i. omega (arith, c.type_inv.bytes i)) c.in-Ok.ensures).1
