use Rattle.std.proofs.Common.{◌≡◌, ◌-◌, ◌<◌, ◌+◌}
use Rattle.aes_core.specs.KeyExpansion.{IsKey}
use Rattle.key_wrap.specs.KeyWrap.{registers, step_count, unwrap_steps}
use Rattle.key_wrap.proofs.registers.unwrap_steps.Given as goal

-- the steps that are left make of the registers what all steps make of the first, and a step has told of the key
abbrev pub invariant-loop-t : goal.invariant-loop-t
invariant-loop-t g l = record {
  key : l.t < step_count l.fn.groups + 1 → IsKey g.row.NK l.kek;
  rest : unwrap_steps g.row.NK l.kek (l.t - 1) (registers l.check l.groups) ≡ unwrap_steps g.row.NK l.kek (step_count l.fn.groups) (registers l.fn.check l.fn.groups);
}
