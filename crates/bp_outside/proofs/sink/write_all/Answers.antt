use Rattle.std.proofs.Common.{◌≡◌, ◌+◌, ◌-◌, ◌≤◌, length, drop, length-drop, refl, ◌∙◌, arith}
use Rattle.std.proofs.lemmas.List.{take_rest}
use Rattle.bp_outside.proofs.Pieces.{Appended-more}
use Rattle.bp_outside.proofs.sink.write_all.Goals as goal

pub loop-done-preserved : goal.loop-done-preserved
loop-done-preserved g c =
    let ensures = rw (take_rest c.args.piece.now c.loop-done.done) at c.in_ok-done.ensures in
    let within : c.in_ok-done.field-0 ≤ length c.args.piece.now - c.loop-done.done = simp length-drop at ensures.within in
    record {
      within = omega arith;
      front = Appended-more _ _ _ c.loop-done.done c.in_ok-done.field-0 c.args.piece.now c.loop-done.invariant.front ensures.moved;
      nothing = λ e. absurd (let none : length c.args.piece.now ≡ 0 = rw e refl in omega arith);
      quiet = ensures.quiet ∙ c.loop-done.invariant.quiet;
      takes_on = λ n takes le.
          let left : length (drop c.loop-done.done c.args.piece.now) ≤ n - c.loop-done.done = simp length-drop (omega arith) in
          let e : n - (c.loop-done.done + c.in_ok-done.field-0) ≡ (n - c.loop-done.done) - c.in_ok-done.field-0 = omega arith in
          rw e (ensures.takes_on (n - c.loop-done.done) (c.loop-done.invariant.takes_on n takes le) left);
    }
