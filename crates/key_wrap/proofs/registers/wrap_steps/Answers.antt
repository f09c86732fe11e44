use Rattle.std.proofs.Common.{refl, arith}
use Rattle.key_wrap.specs.KeyWrap.{registers, wrap_steps}
use Rattle.key_wrap.proofs.StepLemmas.{wrap_steps_more}
use Rattle.key_wrap.proofs.registers.wrap_steps.Goals as goal

pub loop-t-init : goal.loop-t-init
unfolding wrap_steps
loop-t-init g c = refl

pub loop-t-preserved : goal.loop-t-preserved
loop-t-preserved g c =
    let more = wrap_steps_more g.row.NK c.args.kek.now c.loop-t.t (registers c.args.check.now c.args.groups.now) (omega arith) in
    cc
