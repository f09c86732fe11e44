use Rattle.std.proofs.Common.{◌≡◌, ◌-◌}
use Rattle.aes_core.specs.State.{add_round_key}
use Rattle.aes_core.specs.Cipher.{rounds}
use Rattle.aes_core.specs.Words.{state_in}
use Rattle.aes_core.proofs.rounds.encryption.Given as goal

abbrev pub invariant-loop-n : goal.invariant-loop-n
invariant-loop-n l = state_in l.state ≡ rounds l.w (l.n - 1) (add_round_key l.w 0 l.fn.block)
