use Rattle.std.proofs.Common.{◌≡◌, length}
use Rattle.aes_core.specs.Sliced.{AreRoundKeys}
use Rattle.aes_core.proofs.sliced.rounds.round_keys.Given as goal

abbrev pub invariant-loop-n : goal.invariant-loop-n
invariant-loop-n l = (length l.keys ≡ 15) × AreRoundKeys l.w l.n l.keys
