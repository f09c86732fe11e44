use Rattle.bpsec_node.specs.Situation.{meaning}
use Rattle.bpsec_node.specs.View.{Progress, situation}
use Rattle.bpsec_node.proofs.Ways.{end_parts}
use Rattle.bpsec_node.proofs.session.Session.outcome.Goals as goal

pub returns : goal.returns
unfolding situation
returns g c =
    let suite = meaning g.S.Suite.scope g.S.Suite.judged g.S.Suite.checked g.S.Suite.opened in
    let p : Progress = record { received = c.self.inside.received; policy = c.self.inside.policy.now; done = c.self.inside.done; keys = c.self.inside.keys } in
    rw (c.requires.events, c.requires.bundle, ← c.self.view_is) (end_parts (situation suite p) p.done c.self.inside.verdicts c.self.invariant.kept.verdicts_are)
