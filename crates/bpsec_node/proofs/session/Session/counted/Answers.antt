use Rattle.std.proofs.Common.{◌≤◌, subst}
use Rattle.std.specs.Prelude.{length}
use Rattle.bp_bundle.specs.Spelling.{IsBundle}
use Rattle.bpsec_node.specs.View.{Progress, situation}
use Rattle.bpsec_node.specs.Situation.{meaning}
use Rattle.bpsec_node.proofs.Few.{done_few}
use Rattle.bpsec_node.proofs.session.Session.counted.Goals as goal

pub returns-clause-few : goal.returns-clause-few
unfolding situation
returns-clause-few g c =
    let p : Progress = record { received = c.self.inside.received; policy = c.self.inside.policy.now; done = c.self.inside.done; keys = c.self.inside.keys } in
    let suite = meaning g.S.Suite.scope g.S.Suite.judged g.S.Suite.checked g.S.Suite.opened in
    subst (λ (q : Progress). length q.done ≤ 4096) c.self.view_is (done_few (situation suite p) p.done c.self.invariant.kept.shape c.self.invariant.kept.legal)

pub returns-clause-shape : goal.returns-clause-shape
unfolding situation
returns-clause-shape g c = subst (λ (q : Progress). IsBundle q.received) c.self.view_is c.self.invariant.kept.shape
