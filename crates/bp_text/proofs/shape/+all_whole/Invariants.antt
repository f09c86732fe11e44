use Rattle.std.proofs.Common.{length}
use Rattle.bp_text.proofs.shape.+all_whole.Given as goal

abbrev pub decreases-all_whole : goal.decreases-all_whole
decreases-all_whole l = length l.values.now
