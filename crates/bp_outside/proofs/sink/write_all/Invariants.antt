use Rattle.std.proofs.Common.{◌≡◌, ℕ, ◌-◌, ◌≤◌, [], length, take}
use Rattle.bp_outside.specs.Outside.{Appended}
use Rattle.bp_outside.proofs.sink.write_all.Given as goal

-- the first bytes of the piece are written, and no write has failed
abbrev pub invariant-loop-done : goal.invariant-loop-done
invariant-loop-done g l =
    let sink = g.W.Sink in
    record {
      within : l.done ≤ length l.piece;
      front : Appended (sink.written l.fn.out) (take l.done l.piece) (sink.written l.out);
      nothing : l.piece ≡ [] → l.out ≡ l.fn.out;
      quiet : sink.faults l.out ≡ sink.faults l.fn.out;
      takes_on : (n : ℕ) → sink.takes l.fn.out n → length l.piece ≤ n → sink.takes l.out (n - l.done);
    }

abbrev pub decreases-loop-done : goal.decreases-loop-done
decreases-loop-done g l = length l.piece - l.done
