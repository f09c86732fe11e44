use Rattle.std.proofs.Common.{◌≡◌, length}
use Rattle.aes_core.specs.Words.{AreInverseKeys}
use Rattle.aes_core.proofs.inverse_keys.inverse_keys.Given as goal

abbrev pub invariant-loop-n : goal.invariant-loop-n
invariant-loop-n l = (length l.keys ≡ 15) × AreInverseKeys l.w l.n l.keys
