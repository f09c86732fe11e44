use Rattle.std.proofs.Common.{◌≡◌, ℕ, ◌+◌, ◌*◌, ◌/◌, ◌%◌, ◌<◌, length, get_or}
use Rattle.gcm_core.proofs.streams.woven.Given as goal

abbrev pub invariant-loop-row : goal.invariant-loop-row
invariant-loop-row l =
    (length l.woven ≡ 256) × ((k : ℕ) → k < 32 * l.row → get_or l.woven k 0 ≡ get_or l.bytes (k / 2 + 128 * (k % 2)) 0)
