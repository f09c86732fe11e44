use Rattle.std.proofs.Common.{◌≡◌, [], take, drop}
use Rattle.bp_bundle.specs.Faults.{repeated_from}
use Rattle.bp_bundle.proofs.shape.first_repeated.Given as goal

abbrev pub invariant-loop-i : goal.invariant-loop-i
invariant-loop-i l = repeated_from [] l.blocks ≡ repeated_from (take l.i l.blocks) (drop l.i l.blocks)
