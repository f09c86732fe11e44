use Rattle.std.proofs.Common.{◌≡◌, ℕ, ◌+◌, ◌-◌, ◌<◌, List}
use Rattle.aes_core.specs.State.{add_round_key}
use Rattle.aes_core.specs.Cipher.{rounds}
use Rattle.aes_core.specs.Sliced.{block_of, AreRoundKeys}
use Rattle.aes_core.proofs.sliced.rounds.encryption.Given as goal

abbrev pub invariant-loop-n : goal.invariant-loop-n
invariant-loop-n l =
    (w : List ℕ) → AreRoundKeys w (l.nr + 1) l.keys → (j : ℕ) → j < 8
    → block_of l.state j ≡ rounds w (l.n - 1) (add_round_key w 0 (block_of l.fn.state j))
