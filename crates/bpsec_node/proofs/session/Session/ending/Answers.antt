use Rattle.std.proofs.Common.{◌≡◌, cond, List, [], Some, None, sym, ◌∙◌, ap, subst}
use Rattle.bp_bundle.specs.Shape.{Contents}
use Rattle.bp_bundle.specs.Spelling.{IsBundle}
use Rattle.bpsec_asb.specs.Operations.{BodiesAreBytes}
use Rattle.bpsec_node.specs.declared.event.Event.{Event}
use Rattle.bpsec_node.specs.Situation.{meaning}
use Rattle.bpsec_node.specs.Events.{events}
use Rattle.bpsec_node.specs.Outcome.{is_discarded, resulting}
use Rattle.bpsec_node.specs.Order.{ready}
use Rattle.bpsec_node.specs.Finished.{Finished}
use Rattle.bpsec_node.specs.View.{Progress, situation}
use Rattle.bpsec_node.proofs.Finishing.{ended}
use Rattle.bpsec_node.proofs.Endings.{ended_is, ended_events, ended_bundle, ended_shape, outcome_bundle}
use Rattle.bpsec_node.proofs.session.Session.ending.Goals as goal

pub resulting-requires : goal.resulting-requires
unfolding situation
resulting-requires g c = λ discarded.
    let suite = meaning g.S.Suite.scope g.S.Suite.judged g.S.Suite.checked g.S.Suite.opened in
    let p : Progress = record { received = c.self.inside.received; policy = c.self.inside.policy.now; done = c.self.inside.done; keys = c.self.inside.keys } in
    let none : ready (situation suite p) p.done ≡ [] = subst (λ (q : Progress). ready (situation suite q) q.done ≡ []) (sym c.self.view_is) c.requires in
    let k : Finished = record { primary = c.primary.result.now; policy = c.self.inside.policy.now; blocks = c.blocks-3.result.now; held = c.items.result.now; stuck = c.items-2.result.now; done = c.items-3.result.now; verdicts = c.items-4.result.now } in
    let is : k ≡ ended (situation suite p) p.done c.self.inside.held c.self.inside.stuck =
    rw (c.items.ensures, c.items-2.ensures, c.items-3.ensures, c.items-4.ensures)
    (ended_is (situation suite p) p.done _ _ _ _ _ _ _ c.self.invariant.kept none c.primary.result.now c.blocks-3.result.now c.primary.ensures c.blocks-3.ensures.blocks) in
    let found : c.in_ok-events.events ≡ events (situation suite p) = c.in_ok-events.ensures ∙ ended_events (situation suite p) p.done _ _ _ _ _ _ _ c.self.invariant.kept none k is in
    let listed : c.items-5.result.now ≡ events (situation suite p) = c.items-5.ensures ∙ found in
    subst IsBundle (sym (ended_bundle (situation suite p) p.done _ _ _ _ _ _ _ c.self.invariant.kept none k c.items-5.result.now is listed))
    (ended_shape (situation suite p) p.done _ _ _ _ _ _ _ c.self.invariant.kept none (λ context key parameters results parts text. g.met.S.Suite.never_longer context key parameters results parts text)
    (subst BodiesAreBytes c.blocks-2.ensures.blocks c.bodies_are_bytes.ensures) (ap is_discarded (sym listed) ∙ discarded))

pub returns-clause-events : goal.returns-clause-events
unfolding situation
returns-clause-events g c =
    let suite = meaning g.S.Suite.scope g.S.Suite.judged g.S.Suite.checked g.S.Suite.opened in
    let p : Progress = record { received = c.self.inside.received; policy = c.self.inside.policy.now; done = c.self.inside.done; keys = c.self.inside.keys } in
    let none : ready (situation suite p) p.done ≡ [] = subst (λ (q : Progress). ready (situation suite q) q.done ≡ []) (sym c.self.view_is) c.requires in
    let k : Finished = record { primary = c.primary.result.now; policy = c.self.inside.policy.now; blocks = c.blocks-3.result.now; held = c.items.result.now; stuck = c.items-2.result.now; done = c.items-3.result.now; verdicts = c.items-4.result.now } in
    let is : k ≡ ended (situation suite p) p.done c.self.inside.held c.self.inside.stuck =
    rw (c.items.ensures, c.items-2.ensures, c.items-3.ensures, c.items-4.ensures)
    (ended_is (situation suite p) p.done _ _ _ _ _ _ _ c.self.invariant.kept none c.primary.result.now c.blocks-3.result.now c.primary.ensures c.blocks-3.ensures.blocks) in
    let found : c.in_ok-events.events ≡ events (situation suite p) = c.in_ok-events.ensures ∙ ended_events (situation suite p) p.done _ _ _ _ _ _ _ c.self.invariant.kept none k is in
    rw (← c.self.view_is) found

pub returns-clause-bundle : goal.returns-clause-bundle
unfolding situation
returns-clause-bundle g c =
    let suite = meaning g.S.Suite.scope g.S.Suite.judged g.S.Suite.checked g.S.Suite.opened in
    let p : Progress = record { received = c.self.inside.received; policy = c.self.inside.policy.now; done = c.self.inside.done; keys = c.self.inside.keys } in
    let none : ready (situation suite p) p.done ≡ [] = subst (λ (q : Progress). ready (situation suite q) q.done ≡ []) (sym c.self.view_is) c.requires in
    let k : Finished = record { primary = c.primary.result.now; policy = c.self.inside.policy.now; blocks = c.blocks-3.result.now; held = c.items.result.now; stuck = c.items-2.result.now; done = c.items-3.result.now; verdicts = c.items-4.result.now } in
    let is : k ≡ ended (situation suite p) p.done c.self.inside.held c.self.inside.stuck =
    rw (c.items.ensures, c.items-2.ensures, c.items-3.ensures, c.items-4.ensures)
    (ended_is (situation suite p) p.done _ _ _ _ _ _ _ c.self.invariant.kept none c.primary.result.now c.blocks-3.result.now c.primary.ensures c.blocks-3.ensures.blocks) in
    let found : c.in_ok-events.events ≡ events (situation suite p) = c.in_ok-events.ensures ∙ ended_events (situation suite p) p.done _ _ _ _ _ _ _ c.self.invariant.kept none k is in
    let listed : c.items-5.result.now ≡ events (situation suite p) = c.items-5.ensures ∙ found in
    rw (← c.self.view_is)
    (c.in_ok-bundle.ensures
    ∙ (ap (λ (b : Contents). cond (is_discarded c.items-5.result.now) None (Some b)) (ended_bundle (situation suite p) p.done _ _ _ _ _ _ _ c.self.invariant.kept none k c.items-5.result.now is listed)
    ∙ (ap (λ (e : List Event). cond (is_discarded e) None (Some (resulting (situation suite p)))) listed
    ∙ sym (outcome_bundle (situation suite p) p.done _ _ _ _ _ _ _ c.self.invariant.kept none))))
