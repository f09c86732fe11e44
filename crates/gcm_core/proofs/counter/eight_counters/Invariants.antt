use Rattle.std.proofs.Common.{◌≡◌, ℕ, ◌+◌, ◌<◌, [], length, get_or}
use Rattle.gcm_core.specs.Counter.{counted}
use Rattle.gcm_core.proofs.counter.eight_counters.Given as goal

abbrev pub invariant-loop-place : goal.invariant-loop-place
invariant-loop-place l =
    (length l.counters ≡ 8) × ((k : ℕ) → k < l.place → get_or l.counters k [] ≡ counted l.first (l.done + k + 1))
