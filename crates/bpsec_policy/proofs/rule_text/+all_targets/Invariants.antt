use Rattle.std.proofs.Common.{length}
use Rattle.bpsec_policy.proofs.rule_text.+all_targets.Given as goal

abbrev pub decreases-all_targets : goal.decreases-all_targets
decreases-all_targets l = length l.values.now
