use Rattle.std.proofs.Common.{◌≡◌, ◌+◌, ◌-◌, ℕ, take, drop, ap, arith}
use Rattle.key_wrap.specs.KeyWrap.{place}
use Rattle.key_wrap.proofs.CallLemmas.{unwrap_step_by, last_half}
use Rattle.key_wrap.proofs.registers.unwrap_step.Goals as goal

pub returns-clause-unwrapped : goal.returns-clause-unwrapped
returns-clause-unwrapped g c =
    let r = c.args.groups.now in
    let at : ℕ = place r c.args.t in
    let eight : at + 8 - at ≡ 8 = omega arith in
    unwrap_step_by g.row.NK c.args.kek.now c.args.t c.args.check.now r _ _ _ _ _ _ _
    (ap (λ n. take n (drop at r)) eight) c.add_step.ensures c.joined-block.ensures c.decrypt.ensures.decrypted c.copy_from_slice.ensures.after (last_half c.decrypt.new.block c.decrypt.array_long) c.put_group.ensures
