use Rattle.std.proofs.Common.{◌+◌, true, ap, arith}
use Rattle.bp_tcpcl.specs.Taking.{Link}
use Rattle.bp_tcpcl.proofs.Links.{empty_waits}
use Rattle.bp_tcpcl.proofs.stream.Stream.give.Goals as goal

pub invariant_of-self : goal.invariant_of-self
invariant_of-self c =
    let place = ap (λ (l : Link). l.place) c.self.view_is in
    let room = c.requires in
    (omega arith, empty_waits true (c.self.inside.place + c.args.len) c.new.result c.new.ensures)
