use Rattle.std.proofs.Common.{◌≡◌, ℕ, ◌+◌, ◌*◌, ◌/◌, ◌<◌, length, get_or}
use Rattle.gcm_core.specs.Streams.{half_byte}
use Rattle.gcm_core.proofs.streams.half_bytes.Given as goal

abbrev pub invariant-loop-register : goal.invariant-loop-register
invariant-loop-register l =
    (length l.halves ≡ 512) × ((q j : ℕ) → q < 2 * l.register → j < 16
    → get_or l.halves (16 * q + j) 0 ≡ half_byte q (get_or l.streams (16 * (q / 2) + j) 0))
