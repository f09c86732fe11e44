-- Which operations a rule can match, beside those that the rules before it match.
use Rattle.std.specs.Prelude.{ℕ, ◌&&◌, Bool, true, false, not, List, remove, find, Option, Some, None}
use Rattle.std.specs.List.{list_all, list_any}
use Rattle.std.specs.Option.{option_or}
use Rattle.std.specs.Ordering.{int_eq}
use Rattle.bpsec_policy.specs.declared.rule.TargetKind.{TargetKind}
use Rattle.bpsec_policy.specs.declared.rule.Patterns.{Patterns}
use Rattle.bpsec_policy.specs.declared.rule.RuleAt.{RuleAt}
use Rattle.bpsec_policy.specs.Rules.{Parts, same_service, same_id, same_node, same_kind, allows}

-- what passes the own pattern passes the wide one, since this is absent or the own one is such a value
abbrev pub is_within : {A : Type 0} → (A → A → Bool) → Option A → Option A → Bool
is_within same None own = true
is_within same (Some wide) None = false
is_within same (Some wide) (Some own) = same own wide

abbrev pub are_among : List TargetKind → List TargetKind → Bool
are_among kinds wide = list_all (λ kind. list_any (same_kind kind) wide) kinds

-- whatever the own patterns match, the wide ones match
unfoldable pub is_wider : Patterns → Patterns → Bool
is_wider wide own =
    is_within same_service wide.service own.service
    && (is_within same_id wide.source own.source
    && (is_within same_node wide.source_node (option_or own.source own.source_node)
    && (is_within int_eq wide.context own.context
    && is_within are_among wide.targets own.targets)))

-- the patterns ask for a source of a node of which no endpoint is
abbrev pub match_nothing : Patterns → Bool
match_nothing p = not (allows p.source_node (λ node. same_node node node))

-- the first of the rules before it that matches all that a rule matches
abbrev pub wider_before : List RuleAt → RuleAt → Option RuleAt
wider_before before r = find (λ other. is_wider other.patterns r.patterns) before

-- the policy without the rule of an index
abbrev pub without : ℕ → Parts → Parts
without i policy = record policy { rules = remove policy.rules i }
