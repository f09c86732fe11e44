use Rattle.std.proofs.Common.{◌≡◌, ◌+◌, ◌-◌, ℕ, take, drop, ap, arith}
use Rattle.key_wrap.specs.KeyWrap.{place}
use Rattle.key_wrap.proofs.CallLemmas.{wrap_step_by, last_half}
use Rattle.key_wrap.proofs.registers.wrap_step.Goals as goal

pub returns : goal.returns
returns g c =
    let r = c.args.groups.now in
    let at : ℕ = place r c.args.t in
    let eight : at + 8 - at ≡ 8 = omega arith in
    wrap_step_by g.row.NK c.args.kek.now c.args.t c.args.check.now r _ _ _ _ _ _ _
    (ap (λ n. take n (drop at r)) eight) c.joined-block.ensures c.encrypt.ensures.encrypted c.copy_from_slice.ensures.after c.add_step.ensures (last_half c.encrypt.new.block c.encrypt.array_long) c.put_group.ensures
