use Rattle.std.proofs.Common.{◌≡◌, ℕ, ◌+◌, ◌*◌, ◌-◌, ◌++◌, length, take, drop, refl, sym, ap, ◌∙◌, arith, add-zero}
use Rattle.gcm_core.specs.Counter.{counter_mode_from}
use Rattle.gcm_core.proofs.CounterLemmas.{stream_at, length_half_way, counter_mode_more}
use Rattle.gcm_core.proofs.counter.add_eight.Goals as goal

pub loop-place-init : goal.loop-place-init
loop-place-init c = λ e blocks first whole s h.
    h ∙ ap (λ (n : ℕ). counter_mode_from e first 0 (take (16 * n) whole) ++ drop (16 * n) whole) (sym (add-zero c.args.done))

pub loop-place-preserved : goal.loop-place-preserved
loop-place-preserved c = λ e blocks first whole s h.
    let k = c.args.done + c.loop-place.place in
    let now = c.loop-place.body in
    let end = 16 * k + 16 in
    let more : k + 1 ≡ c.args.done + (c.loop-place.place + 1) = omega arith in
    let stream = stream_at e c.args.streams.now first _ c.args.done c.loop-place.place c.loop-place-test.true s in
    let size : length now ≡ length whole = length_half_way e first (16 * k) whole now (c.loop-place.invariant e blocks first whole s h) in
    counter_mode_more e first whole now _ c.add.new.bytes (take (end - 16 * k) (drop (16 * k) now)) _ k end (omega arith) (omega arith)
    (c.loop-place.invariant e blocks first whole s h) stream (ap length stream ∙ blocks _) refl c.add.ensures refl
    ∙ ap (λ (n : ℕ). counter_mode_from e first 0 (take (16 * n) whole) ++ drop (16 * n) whole) more

pub returns : goal.returns
returns c = λ e blocks first whole s h.
    let last : c.loop-place.place ≡ 8 = omega arith in
    c.loop-place.invariant e blocks first whole s h
    ∙ ap (λ (n : ℕ). counter_mode_from e first 0 (take (16 * (c.args.done + n)) whole) ++ drop (16 * (c.args.done + n)) whole) last
