use Rattle.std.proofs.Common.{arith}
use Rattle.cbor_profile.proofs.Wide.{IsBytes}
use Rattle.bp_tcpcl.specs.Step.{seen, item_of}
use Rattle.bp_tcpcl.proofs.Links.{found_part}
use Rattle.bp_tcpcl.proofs.stream.next.Goals as goal

pub returns-in-Ok-owned : goal.returns-in-Ok-owned
returns-in-Ok-owned c =
    let bytes = c.args.bytes.now in
    let found = item_of c.in-Ok.part in
    let after = seen c.in-Ok.after in
    let fits : IsBytes bytes = λ i. omega (arith, c.type_inv.bytes i) in
    let means = c.parts_are_read_as_spelled.ensures.means c.args.opened c.args.place bytes found after fits c.in-Ok.ensures in
    found_part c.args.opened c.args.place bytes c.in-Ok-owned.item found after c.saturating_sub-len.result c.in-Ok-owned.ensures means c.saturating_sub-len.ensures
