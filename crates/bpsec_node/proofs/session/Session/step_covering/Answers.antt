use Rattle.std.proofs.Common.{◌≡◌, ℕ, true, false, List, Option, sym, ◌∙◌, ap, subst}
use Rattle.std.specs.Prelude.{Contains}
use Rattle.bp_bundle.specs.Spelling.{IsBundle}
use Rattle.bpsec_asb.specs.declared.operation.OpId.{OpId}
use Rattle.bpsec_node.specs.Situation.{meaning}
use Rattle.bpsec_node.specs.Site.{site}
use Rattle.bpsec_node.specs.Verdict.{step_verdict}
use Rattle.bpsec_node.specs.Order.{ready, shown}
use Rattle.bpsec_node.specs.Over.{site_in, type_of, verdict_over, opened_over}
use Rattle.bpsec_node.specs.Change.{opened_bundle}
use Rattle.bpsec_node.specs.Session.{is_covering}
use Rattle.bpsec_node.specs.View.{Progress, situation, after_step}
use Rattle.bpsec_node.proofs.StepsCovering.{next_service, next_canonical, next_may, next_target, next_opened, covering_verdict, next_shape, next_covering}
use Rattle.bpsec_node.proofs.session.Session.step_covering.Goals as goal

pub open-requires-clause-service : goal.open-requires-clause-service
open-requires-clause-service g c =
    let suite = meaning g.S.Suite.scope g.S.Suite.judged g.S.Suite.checked g.S.Suite.opened in
    let p : Progress = record { received = c.self.inside.received; policy = c.self.inside.policy.now; done = c.self.inside.done; keys = c.self.inside.keys } in
    let there : Contains (ready (situation suite p) p.done) c.args.op = subst (λ (q : Progress). Contains (ready (situation suite q) q.done) c.args.op) (sym c.self.view_is) c.requires.ready in
    let cov : is_covering (situation suite p) p.done c.args.op ≡ true = subst (λ (q : Progress). is_covering (situation suite q) q.done c.args.op ≡ true) (sym c.self.view_is) c.requires.covering in
    ap (λ (o : OpId). o.service) c.over-over.ensures.op ∙ next_service suite p _ _ _ _ _ _ _ c.self.invariant c.args.op c.args.kept there cov

pub open-requires-clause-canonical : goal.open-requires-clause-canonical
open-requires-clause-canonical g c =
    let suite = meaning g.S.Suite.scope g.S.Suite.judged g.S.Suite.checked g.S.Suite.opened in
    let p : Progress = record { received = c.self.inside.received; policy = c.self.inside.policy.now; done = c.self.inside.done; keys = c.self.inside.keys } in
    let there : Contains (ready (situation suite p) p.done) c.args.op = subst (λ (q : Progress). Contains (ready (situation suite q) q.done) c.args.op) (sym c.self.view_is) c.requires.ready in
    let cov : is_covering (situation suite p) p.done c.args.op ≡ true = subst (λ (q : Progress). is_covering (situation suite q) q.done c.args.op ≡ true) (sym c.self.view_is) c.requires.covering in
    λ zero. next_canonical suite p _ _ _ _ _ _ _ c.self.invariant c.args.op c.args.kept there cov (sym (ap (λ (o : OpId). o.target) c.over-over.ensures.op) ∙ zero)

pub open-requires-clause-target : goal.open-requires-clause-target
open-requires-clause-target g c =
    let suite = meaning g.S.Suite.scope g.S.Suite.judged g.S.Suite.checked g.S.Suite.opened in
    let p : Progress = record { received = c.self.inside.received; policy = c.self.inside.policy.now; done = c.self.inside.done; keys = c.self.inside.keys } in
    let there : Contains (ready (situation suite p) p.done) c.args.op = subst (λ (q : Progress). Contains (ready (situation suite q) q.done) c.args.op) (sym c.self.view_is) c.requires.ready in
    let cov : is_covering (situation suite p) p.done c.args.op ≡ true = subst (λ (q : Progress). is_covering (situation suite q) q.done c.args.op ≡ true) (sym c.self.view_is) c.requires.covering in
    let at : site_in c.over-over.result ≡ site (shown (situation suite p) p.done) c.args.op = subst (λ (q : Progress). site_in c.over-over.result ≡ site (shown (situation suite q) q.done) c.args.op) (sym c.self.view_is) c.over-over.ensures.site in
    next_may suite p _ _ _ _ _ _ _ c.self.invariant c.args.op c.args.kept there cov c.over-over.result at

pub put_opened-requires-clause-small : goal.put_opened-requires-clause-small
put_opened-requires-clause-small g c =
    let suite = meaning g.S.Suite.scope g.S.Suite.judged g.S.Suite.checked g.S.Suite.opened in
    let p : Progress = record { received = c.self.inside.received; policy = c.self.inside.policy.now; done = c.self.inside.done; keys = c.self.inside.keys } in
    let there : Contains (ready (situation suite p) p.done) c.args.op = subst (λ (q : Progress). Contains (ready (situation suite q) q.done) c.args.op) (sym c.self.view_is) c.requires.ready in
    let cov : is_covering (situation suite p) p.done c.args.op ≡ true = subst (λ (q : Progress). is_covering (situation suite q) q.done c.args.op ≡ true) (sym c.self.view_is) c.requires.covering in
    let at : site_in c.over-over.result ≡ site (shown (situation suite p) p.done) c.args.op = subst (λ (q : Progress). site_in c.over-over.result ≡ site (shown (situation suite q) q.done) c.args.op) (sym c.self.view_is) c.over-over.ensures.site in
    let body = c.in_ok-verdict.ensures.body ∙ (ap (λ (k : Option (List ℕ)). opened_over suite p.policy c.over-over.result k) (sym c.requires.kept) ∙ next_opened suite p _ _ _ _ _ _ _ c.self.invariant c.args.op c.args.kept there cov c.over-over.result c.over-over.ensures.op at) in
    subst (λ (b : Option (List ℕ)). IsBundle (opened_bundle c.args.op.target b c.self.inside.shown)) (sym body)
    (next_shape suite p _ _ _ _ _ _ _ c.self.invariant c.args.op c.args.kept there cov (λ context k parameters results parts text. g.met.S.Suite.never_longer context k parameters results parts text))

pub returns-clause-means : goal.returns-clause-means
returns-clause-means g c =
    let suite = meaning g.S.Suite.scope g.S.Suite.judged g.S.Suite.checked g.S.Suite.opened in
    let p : Progress = record { received = c.self.inside.received; policy = c.self.inside.policy.now; done = c.self.inside.done; keys = c.self.inside.keys } in
    let there : Contains (ready (situation suite p) p.done) c.args.op = subst (λ (q : Progress). Contains (ready (situation suite q) q.done) c.args.op) (sym c.self.view_is) c.requires.ready in
    let cov : is_covering (situation suite p) p.done c.args.op ≡ true = subst (λ (q : Progress). is_covering (situation suite q) q.done c.args.op ≡ true) (sym c.self.view_is) c.requires.covering in
    let at : site_in c.over-over.result ≡ site (shown (situation suite p) p.done) c.args.op = subst (λ (q : Progress). site_in c.over-over.result ≡ site (shown (situation suite q) q.done) c.args.op) (sym c.self.view_is) c.over-over.ensures.site in
    let verdict : c.in_ok-verdict.field-0.verdict ≡ step_verdict (situation suite (after_step p c.args.op c.args.kept)) c.args.op =
    c.in_ok-verdict.ensures.verdict ∙ (ap (λ (k : Option (List ℕ)). verdict_over suite p.policy c.over-over.result false k) (sym c.requires.kept) ∙ covering_verdict suite p _ _ _ _ _ _ _ c.self.invariant c.args.op c.args.kept there cov c.over-over.result c.over-over.ensures.op at) in
    rw (c.in_ok-keep.ensures.done, c.in_ok-keep.ensures.keys) verdict

pub invariant_of-self-2 : goal.invariant_of-self-2
invariant_of-self-2 g c =
    let suite = meaning g.S.Suite.scope g.S.Suite.judged g.S.Suite.checked g.S.Suite.opened in
    let p : Progress = record { received = c.self.inside.received; policy = c.self.inside.policy.now; done = c.self.inside.done; keys = c.self.inside.keys } in
    let there : Contains (ready (situation suite p) p.done) c.args.op = subst (λ (q : Progress). Contains (ready (situation suite q) q.done) c.args.op) (sym c.self.view_is) c.requires.ready in
    let cov : is_covering (situation suite p) p.done c.args.op ≡ true = subst (λ (q : Progress). is_covering (situation suite q) q.done c.args.op ≡ true) (sym c.self.view_is) c.requires.covering in
    let at : site_in c.over-over.result ≡ site (shown (situation suite p) p.done) c.args.op = subst (λ (q : Progress). site_in c.over-over.result ≡ site (shown (situation suite q) q.done) c.args.op) (sym c.self.view_is) c.over-over.ensures.site in
    let body = c.in_ok-verdict.ensures.body ∙ (ap (λ (k : Option (List ℕ)). opened_over suite p.policy c.over-over.result k) (sym c.requires.kept) ∙ next_opened suite p _ _ _ _ _ _ _ c.self.invariant c.args.op c.args.kept there cov c.over-over.result c.over-over.ensures.op at) in
    let verdict : c.in_ok-verdict.field-0.verdict ≡ step_verdict (situation suite (after_step p c.args.op c.args.kept)) c.args.op =
    c.in_ok-verdict.ensures.verdict ∙ (ap (λ (k : Option (List ℕ)). verdict_over suite p.policy c.over-over.result false k) (sym c.requires.kept) ∙ covering_verdict suite p _ _ _ _ _ _ _ c.self.invariant c.args.op c.args.kept there cov c.over-over.result c.over-over.ensures.op at) in
    let kind = c.target_type-kind.ensures ∙ ap type_of (next_target suite p _ _ _ _ _ _ _ c.self.invariant c.args.op c.args.kept there cov c.over-over.result at) in
    rw (c.in_ok-keep.ensures.done, c.in_ok-keep.ensures.keys, c.in_ok-keep.ensures.held, c.in_ok-keep.ensures.verdicts, c.put_opened.ensures, c.in_ok-held.ensures.held, c.in_ok-held.ensures.sealed, c.in_ok-held.ensures.stuck, c.in_ok-held.ensures.ready, c.in_ok-held.ensures.ops, c.items.ensures, c.items-2.ensures, c.items-3.ensures, body, kind)
    (next_covering suite p _ _ _ _ _ _ _ c.self.invariant c.args.op c.args.kept there cov c.in_ok-verdict.field-0.verdict (λ context k parameters results parts text. g.met.S.Suite.never_longer context k parameters results parts text) verdict)
