use Rattle.std.proofs.Common.{◌≡◌, ◌-◌}
use Rattle.aes_core.specs.State.{add_round_key}
use Rattle.aes_core.specs.Cipher.{inverse_rounds}
use Rattle.aes_core.specs.Words.{state_in}
use Rattle.aes_core.proofs.rounds.decryption.Given as goal

-- the rounds that are left make of the state what all of them make of the first
abbrev pub invariant-loop-n : goal.invariant-loop-n
invariant-loop-n l =
    inverse_rounds l.w (l.n - 1) (state_in l.state) ≡ inverse_rounds l.w (l.nr - 1) (add_round_key l.w l.nr l.fn.block)
