use Rattle.std.proofs.Common.{◌≡◌, ◌-◌, arith}
use Rattle.key_wrap.specs.KeyWrap.{registers, unwrap_steps}
use Rattle.key_wrap.proofs.StepLemmas.{unwrap_steps_more}
use Rattle.key_wrap.proofs.registers.unwrap_steps.Goals as goal

pub loop-t-preserved : goal.loop-t-preserved
loop-t-preserved g c =
    let more = unwrap_steps_more g.row.NK c.args.kek.now (c.loop-t.t - 1) (registers c.loop-t.check c.loop-t.groups) (omega arith) in
    record { key = λ _. c.unwrap_step.ensures.key; rest = cc }

pub returns-clause-unwrapped : goal.returns-clause-unwrapped
unfolding unwrap_steps
returns-clause-unwrapped g c =
    let end : c.loop-t.t - 1 ≡ 0 = omega arith in
    let all = rw end at c.loop-t.invariant.rest in
    cc
