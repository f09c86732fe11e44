use Rattle.std.proofs.Common.{take}
use Rattle.bp_fragments.proofs.Clashes.{Clashing}
use Rattle.bp_fragments.proofs.payload.clash_place.Given as goal

abbrev pub invariant-loop-span : goal.invariant-loop-span
invariant-loop-span l = Clashing l.bytes (take l.span-index l.covered) l.offset l.piece l.end
