-- What a policy, a key ring or a plan does that its owner may not have meant: a line for each finding, in this order. The lines
-- are this project's own.
use Rattle.std.specs.Prelude.{ℕ, ◌||◌, Bool, List, [], ◌++◌}
use Rattle.std.specs.List.{flat_map, list_any}
use Rattle.bpsec_policy.specs.declared.rule.RuleAt.{RuleAt}
use Rattle.bpsec_policy.specs.declared.ring.NamedKey.{NamedKey}
use Rattle.bpsec_policy.specs.Rules.{Parts}
use Rattle.bpsec_plan.specs.declared.item.Item.{Item}
use Rattle.bpsec_audit.specs.Lines.{each_after}
use Rattle.bpsec_audit.specs.Rules.{rule_lines, default_lines, requirement_lines, no_requirement_lines}
use Rattle.bpsec_audit.specs.Keys.{key_lines}
use Rattle.bpsec_audit.specs.Items.{item_lines, is_key_named, item_names}

abbrev pub rule_names : List ℕ → RuleAt → Bool
rule_names name r = is_key_named r.rule.key name

-- a rule or the default rule names the key
abbrev pub policy_names : Parts → List ℕ → Bool
policy_names policy name = list_any (rule_names name) policy.rules || is_key_named policy.default_rule.key name

abbrev pub plan_names : List Item → List ℕ → Bool
plan_names items name = list_any (item_names name) items

-- the findings over a policy and a ring: rules, default rule, requirements, keys
unfoldable pub policy_findings : Parts → List NamedKey → List (List ℕ)
policy_findings policy ring =
    each_after (rule_lines ring) [] policy.rules
    ++ (default_lines ring policy.default_rule
    ++ (flat_map requirement_lines policy.required
    ++ (no_requirement_lines policy.required
    ++ each_after (key_lines (policy_names policy)) [] ring)))

-- the findings over a plan and a ring: items, keys
unfoldable pub plan_findings : List Item → List NamedKey → List (List ℕ)
plan_findings items ring = each_after (item_lines ring) [] items ++ each_after (key_lines (plan_names items)) [] ring
