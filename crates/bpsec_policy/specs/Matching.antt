-- What the tests of a rule's patterns say, and which rule is the first that matches.
use Rattle.std.specs.Prelude.{◌≡◌, ℕ, ◌<◌, ℤ, List, slice_get, Option, Some, None, IfSome}
use Rattle.bp_eid.specs.declared.eid.Eid.{Eid}
use Rattle.bp_eid.specs.EndpointId.{SameNode}
use Rattle.bpsec_asb.specs.declared.operation.Service.{Service}
use Rattle.bpsec_policy.specs.declared.rule.TargetKind.{TargetKind}
use Rattle.bpsec_policy.specs.declared.rule.Rule.{Rule}
use Rattle.bpsec_policy.specs.declared.rule.Patterns.{Patterns}
use Rattle.bpsec_policy.specs.declared.rule.RuleAt.{RuleAt}
use Rattle.bpsec_policy.specs.Rules.{Parts, rule_of}

-- a security operation, as far as a rule looks at it; a target that isn't there has no kind
pub record Operation : Type 0 where
  pub service : Service
  pub source : Eid
  pub context : ℤ
  pub target : Option TargetKind

-- the target is there and one of these
abbrev pub IsOneOf : Option TargetKind → List TargetKind → Type 0
IsOneOf None kinds = ⊥
IsOneOf (Some kind) kinds = (i : ℕ) × (slice_get kinds i ≡ Some kind)

-- each pattern that is there matches
pub record Matches (p : Patterns) (op : Operation) : Type 0 where
  pub service : IfSome p.service (λ s. op.service ≡ s)
  pub source : IfSome p.source (λ s. op.source ≡ s)
  pub source_node : IfSome p.source_node (λ s. SameNode op.source s)
  pub context : IfSome p.context (λ c. op.context ≡ c)
  pub targets : IfSome p.targets (λ kinds. IsOneOf op.target kinds)

-- this rule matches, and none before it does
pub record IsFirst (rules : List RuleAt) (op : Operation) (i : ℕ) (r : RuleAt) : Type 0 where
  pub at : slice_get rules i ≡ Some r
  pub here : Matches r.patterns op
  pub before : (j : ℕ) (s : RuleAt) → j < i → slice_get rules j ≡ Some s → Matches s.patterns op → ⊥

-- no rule matches
abbrev pub NoneMatches : List RuleAt → Operation → Type 0
NoneMatches rules op = (j : ℕ) (s : RuleAt) → slice_get rules j ≡ Some s → Matches s.patterns op → ⊥

abbrev pub rule_for : Parts → Operation → Rule
rule_for policy op = rule_of policy op.service op.source op.context op.target
