use Rattle.std.proofs.Common.{length}
use Rattle.bpsec_explain.proofs.covers.+scope_after.Given as goal

abbrev pub decreases-scope_after : goal.decreases-scope_after
decreases-scope_after l = length l.pairs.now
