use Rattle.std.proofs.Common.{◌≡◌, sym, ◌∙◌, ap, subst}
use Rattle.std.specs.Prelude.{Contains}
use Rattle.bpsec_asb.specs.declared.operation.OpId.{OpId}
use Rattle.bpsec_node.specs.Situation.{meaning}
use Rattle.bpsec_node.specs.Site.{Site, site, rule_over}
use Rattle.bpsec_node.specs.Order.{ready, shown}
use Rattle.bpsec_node.specs.Over.{site_in}
use Rattle.bpsec_node.specs.View.{Progress, situation}
use Rattle.bpsec_node.proofs.Overs.{over_rule}
use Rattle.bpsec_node.proofs.session.Session.rule_at.Goals as goal

pub returns : goal.returns
unfolding situation
returns g c =
    let suite = meaning g.S.Suite.scope g.S.Suite.judged g.S.Suite.checked g.S.Suite.opened in
    let p : Progress = record { received = c.self.inside.received; policy = c.self.inside.policy.now; done = c.self.inside.done; keys = c.self.inside.keys } in
    let there : Contains (ready (situation suite p) p.done) c.args.op = subst (λ (q : Progress). Contains (ready (situation suite q) q.done) c.args.op) (sym c.self.view_is) c.requires in
    let at : site_in c.over.result ≡ site (shown (situation suite p) p.done) c.args.op = subst (λ (q : Progress). site_in c.over.result ≡ site (shown (situation suite q) q.done) c.args.op) (sym c.self.view_is) c.over.ensures.site in
    rw (← c.self.view_is)
    (c.rule.ensures
    ∙ (ap (λ (x : Site). rule_over p.policy x c.over.result.op) at
    ∙ (ap (λ (o : OpId). rule_over p.policy (site (shown (situation suite p) p.done) c.args.op) o) c.over.ensures.op
    ∙ over_rule _ _ _ _ _ _ _ _ _ c.self.invariant.kept c.args.op there)))
