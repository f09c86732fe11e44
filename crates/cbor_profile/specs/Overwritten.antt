use Rattle.std.specs.Prelude.{List, ◌++◌, length, take}
use Rattle.std.proofs.Common.{drop}

-- the old list with another written over its front; where both have one length, the other
abbrev pub overwritten : {A : Type 0} → List A → List A → List A
overwritten old front = take (length old) (front ++ drop (length front) old)
