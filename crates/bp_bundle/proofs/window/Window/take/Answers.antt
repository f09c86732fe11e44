use Rattle.bp_bundle.proofs.NextBundle.{taken_of}
use Rattle.bp_bundle.proofs.window.Window.take.Goals as goal

pub returns-then-count-self : goal.returns-then-count-self
returns-then-count-self c = rw (← c.self.view_is) (taken_of c.self.inside.buffer.items c.self.inside.from c.self.inside.to c.args.count c.self.inside.taken c.if-count-self.true)
