use Rattle.std.proofs.Common.{◌≡◌}
use Rattle.bp_build.proofs.block.blocks_of.Given as goal

abbrev pub invariant-loop-entry : goal.invariant-loop-entry
invariant-loop-entry l = l.blocks ≡ l.yielded
