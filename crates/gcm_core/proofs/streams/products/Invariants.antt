use Rattle.std.proofs.Common.{◌≡◌, ℕ, ◌+◌, ◌*◌, ◌<◌, length, get_or}
use Rattle.gcm_core.specs.Streams.{sum_below}
use Rattle.gcm_core.proofs.streams.products.Given as goal

abbrev pub invariant-loop-byte : goal.invariant-loop-byte
invariant-loop-byte l =
    (length l.products ≡ 256) × ((b j : ℕ) → b < l.byte → j < 16
    → get_or l.products (16 * b + j) 0 ≡ sum_below 32 (λ q. get_or l.table (256 * q + (16 * b + get_or l.halves (16 * q + j) 0)) 0))
