use Rattle.std.proofs.Common.{ℕ, List, ◌∙◌, ap}
use Rattle.bpsec_node.specs.Situation.{meaning}
use Rattle.bpsec_node.specs.Session.{has}
use Rattle.bpsec_node.specs.View.{situation}
use Rattle.bpsec_node.proofs.Covering.{bib_covering, bcb_covering}
use Rattle.bpsec_node.proofs.session.Session.is_covering.Goals as goal

pub returns-in-Bib : goal.returns-in-Bib
returns-in-Bib g c = bib_covering (situation (meaning g.S.Suite.scope g.S.Suite.judged g.S.Suite.checked g.S.Suite.opened) c.args.self.now) c.args.self.now.done c.args.op c.in-Bib.is

pub returns-in-Bcb : goal.returns-in-Bcb
unfolding situation
returns-in-Bcb g c =
    rw (← c.self.view_is)
    (c.has.ensures ∙ (ap (λ (numbers : List ℕ). has numbers c.args.op.target) c.items.ensures ∙ (c.self.invariant.kept.sealed_is c.args.op.target
    ∙ bcb_covering (situation (meaning g.S.Suite.scope g.S.Suite.judged g.S.Suite.checked g.S.Suite.opened) (record { received = c.self.inside.received; policy = c.self.inside.policy.now; done = c.self.inside.done; keys = c.self.inside.keys })) c.self.inside.done c.args.op c.in-Bcb.is)))
