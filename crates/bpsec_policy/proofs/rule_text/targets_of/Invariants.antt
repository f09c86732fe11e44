use Rattle.std.proofs.Common.{◌≡◌, map, drop}
use Rattle.serde_json.specs.View.{view}
use Rattle.bpsec_policy.specs.RuleText.{targets_of}
use Rattle.bpsec_policy.proofs.Targets.{with_front}
use Rattle.bpsec_policy.proofs.rule_text.targets_of.Given as goal

-- what was read and what is left give what all gives
abbrev pub invariant-loop-value : goal.invariant-loop-value
invariant-loop-value l = with_front l.kinds (targets_of (drop l.value-index (map view l.values))) ≡ targets_of (map view l.values)
