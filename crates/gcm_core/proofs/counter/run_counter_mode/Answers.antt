use Rattle.std.proofs.Common.{ℕ, ◌*◌, ◌-◌, ◌≤◌, ◌++◌, length, take, drop, refl, sym, ◌∙◌, ap, arith}
use Rattle.std.specs.Int.{div_ceil}
use Rattle.aes_core.specs.Cipher.{cipher}
use Rattle.gcm_core.proofs.CounterLemmas.{counter_mode_more, counter_mode_all}
use Rattle.gcm_core.specs.Counter.{counter_mode_from}
use Rattle.gcm_core.proofs.counter.run_counter_mode.Goals as goal
use Rattle.gcm_core.proofs.counter.run_counter_mode.Goals.{then-body-lt-LONG, else-body-lt-LONG}

pub loop-block-init : goal.loop-block-init
loop-block-init g c =
    let e = cipher g.row.NK c.args.aes.now in
    let whole = c.args.body.now in
    elim c.if-body-lt-LONG.branch [
      | then-body-lt-LONG w ↦ w.body-is
          ∙ ap (λ (n : ℕ). counter_mode_from e c.args.first.now 0 (take (16 * n) whole) ++ drop (16 * n) whole) (sym w.done-is)
      | else-body-lt-LONG w ↦
          let done = w.run_by_eight-done.result in
          w.body-is ∙ w.run_by_eight-done.ensures.body
          ∙ ap (λ k. counter_mode_from (cipher g.row.NK k) c.args.first.now 0 (take (16 * done) whole) ++ drop (16 * done) whole)
          w.new.ensures
          ∙ ap (λ (n : ℕ). counter_mode_from e c.args.first.now 0 (take (16 * n) whole) ++ drop (16 * n) whole) (sym w.done-is)
    ]

pub loop-block-preserved : goal.loop-block-preserved
loop-block-preserved g c =
    let e = cipher g.row.NK c.args.aes.now in
    let start = 16 * c.loop-block.block in
    counter_mode_more e c.args.first.now c.args.body.now c.loop-block.body _ c.add.new.bytes
    (take (c.min-end.result - start) (drop start c.loop-block.body)) c.encrypted-stream.result
    c.loop-block.block c.min-end.result (omega (arith, c.div_ceil-block-end.ensures)) (omega (arith, c.min-end.ensures))
    c.loop-block.invariant
    (c.encrypted-stream.ensures ∙ ap e c.counted.ensures) (omega arith) refl c.add.ensures refl

pub returns : goal.returns
returns g c =
    let within : c.if-body-lt-LONG.done ≤ div_ceil (length c.args.body.now) 16 = elim c.if-body-lt-LONG.branch [
      | then-body-lt-LONG w ↦ omega (arith, w.done-is)
      | else-body-lt-LONG w ↦ omega (arith, w.done-is, w.run_by_eight-done.ensures.count)
    ] in
    counter_mode_all (cipher g.row.NK c.args.aes.now) c.args.first.now c.args.body.now c.loop-block.body c.loop-block.block
    (omega (arith, c.div_ceil-block-end.ensures)) c.loop-block.invariant
