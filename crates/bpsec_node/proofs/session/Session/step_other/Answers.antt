use Rattle.std.proofs.Common.{◌≡◌, ℕ, false, List, Option, sym, ◌∙◌, ap, subst}
use Rattle.std.specs.Prelude.{Contains}
use Rattle.bpsec_node.specs.Situation.{meaning}
use Rattle.bpsec_node.specs.Site.{site}
use Rattle.bpsec_node.specs.Verdict.{step_verdict}
use Rattle.bpsec_node.specs.Order.{ready, shown}
use Rattle.bpsec_node.specs.Over.{site_in, verdict_over}
use Rattle.bpsec_node.specs.Session.{has, is_covering}
use Rattle.bpsec_node.specs.View.{Progress, situation, after_step}
use Rattle.bpsec_node.proofs.Steps.{next_verdict, next_other}
use Rattle.bpsec_node.proofs.session.Session.step_other.Goals as goal

pub returns-clause-means : goal.returns-clause-means
returns-clause-means g c =
    let suite = meaning g.S.Suite.scope g.S.Suite.judged g.S.Suite.checked g.S.Suite.opened in
    let p : Progress = record { received = c.self.inside.received; policy = c.self.inside.policy.now; done = c.self.inside.done; keys = c.self.inside.keys } in
    let there : Contains (ready (situation suite p) p.done) c.args.op = subst (λ (q : Progress). Contains (ready (situation suite q) q.done) c.args.op) (sym c.self.view_is) c.requires.ready in
    let other : is_covering (situation suite p) p.done c.args.op ≡ false = subst (λ (q : Progress). is_covering (situation suite q) q.done c.args.op ≡ false) (sym c.self.view_is) c.requires.other in
    let at : site_in c.over.result ≡ site (shown (situation suite p) p.done) c.args.op = subst (λ (q : Progress). site_in c.over.result ≡ site (shown (situation suite q) q.done) c.args.op) (sym c.self.view_is) c.over.ensures.site in
    let blocked : c.has-blocked.result ≡ has c.self.inside.stuck c.args.op.target = c.has-blocked.ensures ∙ ap (λ (n : List ℕ). has n c.args.op.target) c.items.ensures in
    let verdict : c.verdict-verdict.result ≡ step_verdict (situation suite (after_step p c.args.op c.args.kept)) c.args.op =
    c.verdict-verdict.ensures
    ∙ (ap (λ (k : Option (List ℕ)). verdict_over suite p.policy c.over.result c.has-blocked.result k) (sym c.requires.kept)
    ∙ next_verdict suite p _ _ _ _ _ _ _ c.self.invariant c.args.op c.args.kept there other c.over.result c.has-blocked.result c.over.ensures.op at blocked) in
    rw (c.in_ok-note.ensures.done, c.in_ok-note.ensures.keys) verdict

pub invariant_of-self-2 : goal.invariant_of-self-2
invariant_of-self-2 g c =
    let suite = meaning g.S.Suite.scope g.S.Suite.judged g.S.Suite.checked g.S.Suite.opened in
    let p : Progress = record { received = c.self.inside.received; policy = c.self.inside.policy.now; done = c.self.inside.done; keys = c.self.inside.keys } in
    let there : Contains (ready (situation suite p) p.done) c.args.op = subst (λ (q : Progress). Contains (ready (situation suite q) q.done) c.args.op) (sym c.self.view_is) c.requires.ready in
    let other : is_covering (situation suite p) p.done c.args.op ≡ false = subst (λ (q : Progress). is_covering (situation suite q) q.done c.args.op ≡ false) (sym c.self.view_is) c.requires.other in
    let at : site_in c.over.result ≡ site (shown (situation suite p) p.done) c.args.op = subst (λ (q : Progress). site_in c.over.result ≡ site (shown (situation suite q) q.done) c.args.op) (sym c.self.view_is) c.over.ensures.site in
    let blocked : c.has-blocked.result ≡ has c.self.inside.stuck c.args.op.target = c.has-blocked.ensures ∙ ap (λ (n : List ℕ). has n c.args.op.target) c.items.ensures in
    let verdict : c.verdict-verdict.result ≡ step_verdict (situation suite (after_step p c.args.op c.args.kept)) c.args.op =
    c.verdict-verdict.ensures
    ∙ (ap (λ (k : Option (List ℕ)). verdict_over suite p.policy c.over.result c.has-blocked.result k) (sym c.requires.kept)
    ∙ next_verdict suite p _ _ _ _ _ _ _ c.self.invariant c.args.op c.args.kept there other c.over.result c.has-blocked.result c.over.ensures.op at blocked) in
    rw (c.in_ok-note.ensures.done, c.in_ok-note.ensures.keys, c.in_ok-note.ensures.verdicts, c.take_op.ensures, c.take_op-2.ensures)
    (next_other suite p _ _ _ _ _ _ _ c.self.invariant c.args.op c.args.kept there other c.verdict-verdict.result verdict)
