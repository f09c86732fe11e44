-- The rule of a security operation, and the role that the node has in it. Policies are this project's own; RFC 9172, sections
-- 2.3 and 9, leaves them to the network.
use Rattle.std.specs.Prelude.{◌==◌, ◌&&◌, Bool, true, false, not, ℤ, List, [], find, if◌then◌else◌, Option, Some, None, option_map, unwrap_or}
use Rattle.std.specs.Ordering.{int_eq}
use Rattle.std.specs.List.{list_any}
use Rattle.std.specs.Str.{bytes_eq}
use Rattle.bp_eid.specs.declared.eid.Eid.{Eid}
use Rattle.bp_eid.specs.declared.eid.Eid.TheVariants.{Null, Dtn, Ipn}
use Rattle.bp_eid.specs.DtnText.{node_name}
use Rattle.bpsec_asb.specs.declared.operation.Service.{Service}
use Rattle.bpsec_asb.specs.declared.operation.Service.TheVariants.{Bib, Bcb}
use Rattle.bpsec_policy.specs.declared.rule.Role.{Role}
use Rattle.bpsec_policy.specs.declared.rule.Role.TheVariants.{Acceptor}
use Rattle.bpsec_policy.specs.declared.rule.Action.{Action}
use Rattle.bpsec_policy.specs.declared.rule.TargetKind.{TargetKind}
use Rattle.bpsec_policy.specs.declared.rule.TargetKind.TheVariants.{Primary, Kind}
use Rattle.bpsec_policy.specs.declared.rule.Rule.{Rule}
use Rattle.bpsec_policy.specs.declared.rule.Patterns.{Patterns}
use Rattle.bpsec_policy.specs.declared.rule.RuleAt.{RuleAt}
use Rattle.bpsec_policy.specs.declared.rule.Requirement.{Requirement}

-- a policy as plain data
pub record Parts : Type 0 where
  pub node : Eid
  pub broken : Action
  pub default_rule : Rule
  pub rules : List RuleAt
  pub required : List Requirement

-- ---- equal services, ids and kinds

abbrev pub same_service : Service → Service → Bool
same_service Bib Bib = true
same_service Bib Bcb = false
same_service Bcb Bib = false
same_service Bcb Bcb = true

abbrev pub same_id : Eid → Eid → Bool
same_id Null Null = true
same_id (Dtn text) (Dtn other) = bytes_eq text other
same_id (Ipn node service) (Ipn other service') = node == other && service == service'
same_id a b = false

-- both are endpoints of one node
abbrev pub same_node : Eid → Eid → Bool
same_node (Dtn text) (Dtn other) = not (bytes_eq (node_name text) []) && bytes_eq (node_name text) (node_name other)
same_node (Ipn node service) (Ipn other service') = node == other
same_node a b = false

abbrev pub same_kind : TargetKind → TargetKind → Bool
same_kind Primary Primary = true
same_kind (Kind n) (Kind m) = n == m
same_kind a b = false

-- ---- patterns

-- an absent pattern matches everything
abbrev pub allows : {A : Type 0} → Option A → (A → Bool) → Bool
allows None test = true
allows (Some x) test = test x

-- the target is there and of one of the kinds
abbrev pub is_of_kinds : Option TargetKind → List TargetKind → Bool
is_of_kinds None kinds = false
is_of_kinds (Some kind) kinds = list_any (same_kind kind) kinds

-- All patterns match an operation of this service, security source, security context and target. The kind of a target that
-- isn't there is none.
unfoldable pub matches : Patterns → Service → Eid → ℤ → Option TargetKind → Bool
matches patterns service source context target =
    allows patterns.service (same_service service)
    && (allows patterns.source (same_id source)
    && (allows patterns.source_node (same_node source)
    && (allows patterns.context (int_eq context)
    && allows patterns.targets (is_of_kinds target))))

-- ---- rule and role

-- the first rule whose patterns all match, else the default rule
abbrev pub rule_of : Parts → Service → Eid → ℤ → Option TargetKind → Rule
rule_of policy service source context target =
    unwrap_or (option_map (λ r. r.rule) (find (λ r. matches r.patterns service source context target) policy.rules)) policy.default_rule

-- the rule's role, but acceptor of a confidentiality operation where the bundle's destination is of this node
abbrev pub role_at : Parts → Rule → Service → Eid → Role
role_at policy rule Bib destination = rule.role
role_at policy rule Bcb destination = if same_node policy.node destination then Acceptor else rule.role
