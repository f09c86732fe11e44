use Rattle.std.proofs.Common.{◌≡◌, ℕ, List, ◌+◌, ◌*◌, ◌++◌, length, map, take, drop}
use Rattle.gcm_core.specs.Counter.{counters_from, counter_mode_from}
use Rattle.gcm_core.proofs.counter.add_eight.Given as goal

abbrev pub invariant-loop-place : goal.invariant-loop-place
invariant-loop-place l =
    (e : List ℕ → List ℕ) → ((block : List ℕ) → length (e block) ≡ 16) → (first whole : List ℕ)
    → l.streams ≡ map e (counters_from first l.done 8)
    → l.fn.body ≡ counter_mode_from e first 0 (take (16 * l.done) whole) ++ drop (16 * l.done) whole
    → l.body ≡ counter_mode_from e first 0 (take (16 * (l.done + l.place)) whole) ++ drop (16 * (l.done + l.place)) whole
