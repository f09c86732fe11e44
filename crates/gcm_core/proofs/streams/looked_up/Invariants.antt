use Rattle.std.proofs.Common.{◌≡◌, ℕ, ◌+◌, ◌*◌, ◌<◌, length, get_or}
use Rattle.gcm_core.specs.Streams.{sum_below}
use Rattle.gcm_core.proofs.streams.looked_up.Given as goal

abbrev pub invariant-loop-half : goal.invariant-loop-half
invariant-loop-half l =
    (length l.sum ≡ 16) × ((j : ℕ) → j < 16
    → get_or l.sum j 0 ≡ sum_below l.half (λ q. get_or l.table (256 * q + (16 * l.byte + get_or l.halves (16 * q + j) 0)) 0))
