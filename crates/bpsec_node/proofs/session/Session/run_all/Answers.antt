use Rattle.std.proofs.Common.{◌≡◌, [], sym, subst, arith}
use Rattle.bpsec_node.specs.Situation.{meaning}
use Rattle.bpsec_node.specs.Order.{ready}
use Rattle.bpsec_node.specs.Running.{Ran, Ended}
use Rattle.bpsec_node.specs.View.{Progress, End, situation, end_of}
use Rattle.bpsec_node.proofs.Ways.{way_start, way_on, way_ran, way_end, if_ok, if_err, nothing}
use Rattle.bpsec_node.proofs.session.Session.run_all.Goals as goal

pub steps-init : goal.steps-init
steps-init g c = way_start g.C.Chooser.answer g.C.Chooser.after _ c.args.ring.now c.args.self c.args.chooser.now c.counted.ensures.keyed c.counted.ensures.few c.counted.ensures.shape c.counted.ensures.legal

pub steps-preserved : goal.steps-preserved
steps-preserved g c =
    way_on g.C.Chooser.answer g.C.Chooser.after _ c.args.ring.now c.args.self c.args.chooser.now c.steps.self c.steps.chooser c.steps.invariant c.step_by.new.self c.in-Ok.ensures.ok
    c.step_by.new.chooser c.in-Ok.ensures.next c.counted-in-steps.ensures.keyed c.counted-in-steps.ensures.few c.counted-in-steps.ensures.shape c.counted-in-steps.ensures.legal

pub returns-in-Err-clause-err : goal.returns-in-Err-clause-err
returns-in-Err-clause-err g c =
    let suite = meaning g.S.Suite.scope g.S.Suite.judged g.S.Suite.checked g.S.Suite.opened in
    subst (λ (q : Progress). Ran g.C.Chooser.answer g.C.Chooser.after suite c.args.ring.now c.args.self q c.args.chooser.now) (sym c.in-Err.ensures.err)
    (way_ran g.C.Chooser.answer g.C.Chooser.after suite c.args.ring.now c.args.self c.args.chooser.now c.steps.self c.steps.chooser c.steps.invariant)

pub returns-clause-ok : goal.returns-clause-ok
returns-clause-ok g c =
    let suite = meaning g.S.Suite.scope g.S.Suite.judged g.S.Suite.checked g.S.Suite.opened in
    let none : ready (situation suite c.steps.self) c.steps.self.done ≡ [] = nothing (ready (situation suite c.steps.self) c.steps.self.done) (omega (arith, c.steps-test.false, c.ready_len.ensures)) in
    if_ok c.close.result (λ (end : End). end ≡ end_of (situation suite c.steps.self) c.steps.self.done) (Ended g.C.Chooser.answer g.C.Chooser.after suite c.args.ring.now c.args.self c.args.chooser.now)
    (λ end is. way_end g.C.Chooser.answer g.C.Chooser.after suite c.args.ring.now c.args.self c.args.chooser.now c.steps.self c.steps.chooser c.steps.invariant none end is)
    c.close.ensures.ok

pub returns-clause-err : goal.returns-clause-err
returns-clause-err g c =
    let suite = meaning g.S.Suite.scope g.S.Suite.judged g.S.Suite.checked g.S.Suite.opened in
    if_err c.close.result _ _
    (λ back same. subst (λ (q : Progress). Ran g.C.Chooser.answer g.C.Chooser.after suite c.args.ring.now c.args.self q c.args.chooser.now) (sym same)
    (way_ran g.C.Chooser.answer g.C.Chooser.after suite c.args.ring.now c.args.self c.args.chooser.now c.steps.self c.steps.chooser c.steps.invariant))
    c.close.ensures.err
