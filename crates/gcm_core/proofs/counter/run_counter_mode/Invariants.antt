use Rattle.std.proofs.Common.{◌≡◌, ◌++◌, ◌*◌, take, drop}
use Rattle.aes_core.specs.Cipher.{cipher}
use Rattle.gcm_core.specs.Counter.{counter_mode_from}
use Rattle.gcm_core.proofs.counter.run_counter_mode.Given as goal

abbrev pub invariant-loop-block : goal.invariant-loop-block
invariant-loop-block g l =
    l.body ≡ counter_mode_from (cipher g.row.NK l.aes) l.first 0 (take (16 * l.block) l.fn.body) ++ drop (16 * l.block) l.fn.body
