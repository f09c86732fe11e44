use Rattle.std.proofs.Common.{◌≡◌, ◌-◌}
use Rattle.key_wrap.specs.KeyWrap.{registers, wrap_steps}
use Rattle.key_wrap.proofs.registers.wrap_steps.Given as goal

abbrev pub invariant-loop-t : goal.invariant-loop-t
invariant-loop-t g l =
    wrap_steps g.row.NK l.kek (l.t - 1) (registers l.fn.check l.fn.groups) ≡ registers l.check l.groups
