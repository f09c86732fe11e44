use Rattle.std.proofs.Common.{◌≡◌, ℕ, List, ◌+◌, ◌*◌, ◌/◌, ◌++◌, length, map, take, drop, refl, ap, ◌∙◌, arith}
use Rattle.aes_core.specs.State.{state_of, add_round_key}
use Rattle.aes_core.specs.Cipher.{cipher, encryption}
use Rattle.gcm_core.specs.Counter.{counter_mode_from}
use Rattle.gcm_core.proofs.counter.run_by_eight.Goals as goal

length-cipher : (nk : ℕ) (key block : List ℕ) → length (cipher nk key block) ≡ 16
unfolding cipher encryption add_round_key state_of
length-cipher nk key block = refl

pub loop-group-preserved : goal.loop-group-preserved
loop-group-preserved g c =
    let e = cipher g.row.NK c.args.aes.now in
    let first = c.args.first.now in
    let whole = c.args.body.now in
    let more : 8 * c.loop-group.group + 8 ≡ 8 * (c.loop-group.group + 1) = omega arith in
    c.add_eight.ensures e (length-cipher g.row.NK c.args.aes.now) first whole
    (c.encrypt.ensures.encrypted ∙ ap (map e) c.eight_counters-streams.ensures) c.loop-group.invariant
    ∙ ap (λ (n : ℕ). counter_mode_from e first 0 (take (16 * n) whole) ++ drop (16 * n) whole) more

pub returns-clause-body : goal.returns-clause-body
returns-clause-body g c =
    let e = cipher g.row.NK c.args.aes.now in
    let first = c.args.first.now in
    let whole = c.args.body.now in
    let last : c.loop-group.group ≡ length whole / 128 = omega arith in
    c.loop-group.invariant
    ∙ ap (λ (n : ℕ). counter_mode_from e first 0 (take (16 * (8 * n)) whole) ++ drop (16 * (8 * n)) whole) last
