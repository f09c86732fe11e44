use Rattle.std.proofs.Common.{arith, refl, [], ◌∷◌}
use Rattle.key_wrap.proofs.RegisterLemmas.{halves}
use Rattle.key_wrap.proofs.registers.joined.Goals as goal

pub returns : goal.returns
returns c = let h = halves c.copy_from_slice.new.self (0 ∷ 0 ∷ 0 ∷ 0 ∷ 0 ∷ 0 ∷ 0 ∷ 0 ∷ []) c.copy_from_slice-2.new.self (omega arith) refl in cc
