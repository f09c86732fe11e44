use Rattle.std.proofs.Common.{◌-◌, length}
use Rattle.bpsec_node.specs.Situation.{meaning}
use Rattle.bpsec_node.proofs.Ways.{OnTheWay}
use Rattle.bpsec_node.proofs.session.Session.run_all.Given as goal

abbrev pub invariant-steps : goal.invariant-steps
invariant-steps g l = OnTheWay g.C.Chooser.answer g.C.Chooser.after (meaning g.S.Suite.scope g.S.Suite.judged g.S.Suite.checked g.S.Suite.opened) l.ring l.fn.self l.fn.chooser l.self l.chooser

abbrev pub decreases-steps : goal.decreases-steps
decreases-steps g l = 4096 - length l.self.done
