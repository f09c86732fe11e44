-- What every policy keeps.
use Rattle.std.specs.Prelude.{ℕ, ◌==◌, ◌&&◌, ◌||◌, Bool, false, not, nat_le, List, ◌∷◌, [], ◌++◌, map, length, codes, is_some}
use Rattle.std.specs.List.{list_all}
use Rattle.std.specs.Str.{bytes_eq}
use Rattle.bp_text.specs.Shape.{is_name}
use Rattle.bpsec_policy.specs.declared.rule.TargetKind.{TargetKind}
use Rattle.bpsec_policy.specs.declared.rule.TargetKind.TheVariants.{Primary, Kind}
use Rattle.bpsec_policy.specs.declared.rule.Rule.{Rule}
use Rattle.bpsec_policy.specs.declared.rule.Patterns.{Patterns}
use Rattle.bpsec_policy.specs.declared.rule.RuleAt.{RuleAt}
use Rattle.bpsec_policy.specs.declared.rule.Requirement.{Requirement}
use Rattle.bpsec_policy.specs.Names.{all_differ}
use Rattle.bpsec_policy.specs.Rules.{Parts, allows}

abbrev pub reserved : List (List ℕ)
reserved = codes "default" ∷ codes "broken" ∷ []

-- 1 to 16 kinds, and not both a source and a node of the source
abbrev pub are_patterns : Patterns → Bool
are_patterns p =
    allows p.targets (λ kinds. nat_le 1 (length kinds) && nat_le (length kinds) 16)
    && not (is_some p.source && is_some p.source_node)

-- names of 1 to 64 visible characters, and a least scope of at most 7
abbrev pub is_rule : RuleAt → Bool
is_rule r =
    is_name r.rule.name && (allows r.rule.key is_name && (allows r.rule.least_scope (λ bits. nat_le bits 7)
    && are_patterns r.patterns))

-- the rule that is left, by its own name and without a least scope
abbrev pub is_default : Rule → Bool
is_default rule = bytes_eq rule.name (codes "default") && (allows rule.key is_name && not (is_some rule.least_scope))

-- a block of security operations
abbrev pub is_security : TargetKind → Bool
is_security Primary = false
is_security (Kind n) = n == 11 || n == 12

abbrev pub is_requirement : Requirement → Bool
is_requirement r = is_name r.name && not (is_security r.target)

abbrev pub names_of : List RuleAt → List Requirement → List (List ℕ)
names_of rules required = map (λ r. r.rule.name) rules ++ map (λ r. r.name) required

-- At most 256 rules and 64 requirements, whose names differ from one another, from `default` and from `broken`.
unfoldable pub is_policy : Parts → Bool
is_policy p =
    nat_le (length p.rules) 256 && (nat_le (length p.required) 64 && (is_default p.default_rule
    && (list_all is_rule p.rules && (list_all is_requirement p.required
    && all_differ (reserved ++ names_of p.rules p.required)))))
