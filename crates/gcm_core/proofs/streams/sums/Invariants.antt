use Rattle.std.proofs.Common.{◌≡◌, ℕ, ◌*◌, ◌<◌, length, get_or, bit_xor}
use Rattle.gcm_core.proofs.streams.sums.Given as goal

abbrev pub invariant-loop-register : goal.invariant-loop-register
invariant-loop-register l =
    (length l.sums ≡ 256) × ((k : ℕ) → k < 16 * l.register → get_or l.sums k 0 ≡ bit_xor (get_or l.left k 0) (get_or l.right k 0))
