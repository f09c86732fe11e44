use Rattle.std.proofs.Common.{◌≡◌, ℕ, ◌+◌, ◌*◌, ◌<◌, length, get_or}
use Rattle.gcm_core.specs.Block.{bits, block_of}
use Rattle.gcm_core.proofs.streams.rows_of.Given as goal

abbrev pub invariant-loop-row : goal.invariant-loop-row
invariant-loop-row l =
    (length l.rows ≡ 256) × ((m b : ℕ) → m < l.row → b < 16
    → get_or l.rows (16 * m + b) 0 ≡ get_or (block_of (bits 128 (get_or l.blocks m 0))) b 0)
