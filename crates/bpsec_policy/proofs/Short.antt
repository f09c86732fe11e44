-- The text of a policy has fewer than 900,000 bytes: each entry at its longest, and as many entries as a policy has.
use Rattle.std.proofs.Common.{◌≡◌, ℕ, ◌+◌, ◌*◌, ◌<◌, ◌≤◌, Bool, true, not, ◌&&◌, List, [], ◌∷◌, length, map, Option, Some, None, ℤ, refl, arith}
use Rattle.std.specs.Prelude.{nat_le, codes, is_some, option_map, IfSome, IsTrue, FitsSigned}
use Rattle.std.specs.Int.{w64}
use Rattle.std.specs.List.{AllByRecursion, list_all}
use Rattle.std.proofs.lemmas.Bool.{leb-true}
use Rattle.json.specs.Print.{escape_byte}
use Rattle.serde_json.specs.Data.{Data, string, number, array, unsigned}
use Rattle.serde_json.specs.Find.{of_integer}
use Rattle.serde_json.specs.View.{items_of}
use Rattle.bp_eid.specs.declared.eid.Eid.{Eid}
use Rattle.bp_eid.specs.EndpointId.{Fits}
use Rattle.bp_text.specs.Shape.{is_name}
use Rattle.bpsec_asb.specs.declared.operation.Service.{Service}
use Rattle.bpsec_asb.specs.declared.operation.Service.TheVariants.{Bib, Bcb}
use Rattle.bpsec_policy.specs.declared.rule.Role.{Role}
use Rattle.bpsec_policy.specs.declared.rule.Role.TheVariants as roles
use Rattle.bpsec_policy.specs.declared.rule.Action.{Action}
use Rattle.bpsec_policy.specs.declared.rule.Action.TheVariants.{Keep, Remove, Discard}
use Rattle.bpsec_policy.specs.declared.rule.TargetKind.{TargetKind}
use Rattle.bpsec_policy.specs.declared.rule.TargetKind.TheVariants.{Primary, Kind}
use Rattle.bpsec_policy.specs.declared.rule.Rule.{Rule}
use Rattle.bpsec_policy.specs.declared.rule.RuleAt.{RuleAt}
use Rattle.bpsec_policy.specs.declared.rule.Requirement.{Requirement}
use Rattle.bpsec_policy.specs.Words.{role_word, action_word, service_word}
use Rattle.bpsec_policy.specs.Rules.{Parts, allows}
use Rattle.bpsec_policy.specs.Policy.{are_patterns, is_rule, is_default, is_requirement, is_policy}
use Rattle.bpsec_policy.specs.Ranges.{TargetFits, PatternsFit, RequirementFits, PartsFit}
use Rattle.bpsec_policy.specs.Written.{id_tree, target_tree, acting_entries, rule_entries, rule_tree, requirement_entries, requirement_tree, default_tree, policy_entries, policy_tree, policy_text}
use Rattle.bpsec_policy.proofs.Lengths.{size, worth, name_size, number_size, integer_size, id_size, object_size, array_size}
use Rattle.bpsec_policy.proofs.Steps.{both_true}

-- ---- words

role_size : (role : Role) → size (string (role_word role)) ≤ 10
unfolding size escape_byte
role_size roles.Acceptor = omega arith
role_size roles.Verifier = omega arith
role_size roles.None = omega arith

action_size : (action : Action) → size (string (action_word action)) ≤ 9
unfolding size escape_byte
action_size Keep = omega arith
action_size Remove = omega arith
action_size Discard = omega arith

service_size : (service : Service) → size (string (service_word service)) ≤ 5
unfolding size escape_byte
service_size Bib = omega arith
service_size Bcb = omega arith

primary_size : size (string (codes "primary")) ≤ 20
unfolding size escape_byte
primary_size = omega arith

target_size : (kind : TargetKind) → TargetFits kind → size (target_tree kind) ≤ 20
target_size Primary fits = primary_size
target_size (Kind n) fits = number_size n fits

-- ---- entries

name_worth : (name : List ℕ) → is_name name ≡ true → worth (codes "name") (Some (string name)) ≤ 138
unfolding worth escape_byte
name_worth name h = omega (arith, name_size name h)

key_worth : (key : Option (List ℕ)) → allows key is_name ≡ true → worth (codes "key") (option_map string key) ≤ 137
unfolding worth escape_byte
key_worth None h = omega arith
key_worth (Some key) h = omega (arith, name_size key h)

role_worth : (role : Role) → worth (codes "role") (Some (string (role_word role))) ≤ 18
unfolding worth escape_byte
role_worth role = omega (arith, role_size role)

failed_worth : (action : Action) → worth (codes "failed") (Some (string (action_word action))) ≤ 19
unfolding worth escape_byte
failed_worth action = omega (arith, action_size action)

misset_worth : (action : Action) → worth (codes "misset") (Some (string (action_word action))) ≤ 19
unfolding worth escape_byte
misset_worth action = omega (arith, action_size action)

missing_worth : (action : Action) → worth (codes "missing") (Some (string (action_word action))) ≤ 20
unfolding worth escape_byte
missing_worth action = omega (arith, action_size action)

broken_worth : (action : Action) → worth (codes "broken") (Some (string (action_word action))) ≤ 19
unfolding worth escape_byte
broken_worth action = omega (arith, action_size action)

service_worth : (service : Option Service) → worth (codes "service") (option_map (λ s. string (service_word s)) service) ≤ 16
unfolding worth escape_byte
service_worth None = omega arith
service_worth (Some service) = omega (arith, service_size service)

least_worth : (least : Option ℕ) → allows least (λ bits. nat_le bits 7) ≡ true → worth (codes "least_scope") (option_map (λ bits. number (unsigned bits)) least) ≤ 35
unfolding worth escape_byte
least_worth None h = omega arith
least_worth (Some bits) h = let low : bits ≤ 7 = leb-true bits 7 h in omega (arith, number_size bits (omega arith))

context_worth : (context : Option ℤ) → IfSome context (λ z. FitsSigned w64 z) → worth (codes "context") (option_map (λ z. number (of_integer z)) context) ≤ 32
unfolding worth escape_byte
context_worth None fits = omega arith
context_worth (Some z) fits = omega (arith, integer_size z fits)

targets_each : (kinds : List TargetKind) → AllByRecursion TargetFits kinds → AllByRecursion (λ kind. size (target_tree kind) < 21) kinds
targets_each [] fits = tt
targets_each (kind ∷ kinds) fits = (omega (arith, target_size kind fits.0), targets_each kinds fits.1)

targets_worth : (targets : Option (List TargetKind)) → allows targets (λ kinds. nat_le 1 (length kinds) && nat_le (length kinds) 16) ≡ true → IfSome targets (AllByRecursion TargetFits)
    → worth (codes "targets") (option_map (λ kinds. array (items_of (map target_tree kinds))) targets) ≤ 349
unfolding worth escape_byte
targets_worth None h fits = omega arith
targets_worth (Some kinds) h fits =
    let few : length kinds ≤ 16 = leb-true (length kinds) 16 (both_true (nat_le 1 (length kinds)) (nat_le (length kinds) 16) h).1 in
    omega (arith, array_size target_tree 21 kinds (targets_each kinds fits))

target_worth : (kind : TargetKind) → TargetFits kind → worth (codes "target") (Some (target_tree kind)) ≤ 30
unfolding worth escape_byte
target_worth kind fits = omega (arith, target_size kind fits)

source_worth : (source : Option Eid) → IfSome source Fits → worth (codes "source") (option_map id_tree source) ≤ 2068
unfolding worth escape_byte
source_worth None fits = omega arith
source_worth (Some eid) fits = omega (arith, id_size eid fits)

node_worth : (source : Option Eid) → IfSome source Fits → worth (codes "source_node") (option_map id_tree source) ≤ 2073
unfolding worth escape_byte
node_worth None fits = omega arith
node_worth (Some eid) fits = omega (arith, id_size eid fits)

from_worth : (from : Option Eid) → IfSome from Fits → worth (codes "from") (option_map id_tree from) ≤ 2066
unfolding worth escape_byte
from_worth None fits = omega arith
from_worth (Some eid) fits = omega (arith, id_size eid fits)

none_worth : (key : List ℕ) → worth key None ≡ 0
unfolding worth
none_worth key = refl

-- a rule has at most one of both
sources_worth : (source node : Option Eid) → not (is_some source && is_some node) ≡ true → IfSome source Fits → IfSome node Fits
    → worth (codes "source") (option_map id_tree source) + worth (codes "source_node") (option_map id_tree node) ≤ 2073
sources_worth None node h a b = omega (arith, none_worth (codes "source"), node_worth node b)
sources_worth (Some eid) None h a b = omega (arith, none_worth (codes "source_node"), source_worth (Some eid) a)
sources_worth (Some eid) (Some other) h a b = absurd cc

-- ---- rules, requirements, the default

rule_size : (r : RuleAt) → is_rule r ≡ true → PatternsFit r.patterns → size (rule_tree r) < 2900
unfolding rule_tree
rule_size r h fits =
    let p = r.patterns in
    let a = both_true (is_name r.rule.name) _ h in
    let b = both_true (allows r.rule.key is_name) _ a.1 in
    let c = both_true (allows r.rule.least_scope (λ bits. nat_le bits 7)) (are_patterns p) b.1 in
    let d = both_true (allows p.targets (λ kinds. nat_le 1 (length kinds) && nat_le (length kinds) 16)) (not (is_some p.source && is_some p.source_node)) c.1 in
    omega (
      arith,
      object_size (rule_entries r),
      name_worth r.rule.name a.0,
      least_worth r.rule.least_scope c.0,
      role_worth r.rule.role,
      failed_worth r.rule.failed,
      misset_worth r.rule.misset,
      key_worth r.rule.key b.0,
      service_worth p.service,
      sources_worth p.source p.source_node d.1 fits.source fits.source_node,
      context_worth p.context fits.context,
      targets_worth p.targets d.0 fits.targets,
    )

requirement_size : (r : Requirement) → is_requirement r ≡ true → RequirementFits r → size (requirement_tree r) < 2400
unfolding requirement_tree
requirement_size r h fits =
    let a = both_true (is_name r.name) _ h in
    omega (arith, object_size (requirement_entries r), name_worth r.name a.0, target_worth r.target fits.target, service_worth (Some r.service), missing_worth r.missing, from_worth r.from fits.from)

default_size : (rule : Rule) → allows rule.key is_name ≡ true → size (default_tree rule) ≤ 200
unfolding default_tree
default_size rule h = omega (arith, object_size (acting_entries rule), role_worth rule.role, failed_worth rule.failed, misset_worth rule.misset, key_worth rule.key h)

rules_each : (rs : List RuleAt) → list_all is_rule rs ≡ true → AllByRecursion (λ r. PatternsFit r.patterns) rs → AllByRecursion (λ r. size (rule_tree r) < 2900) rs
rules_each [] h fits = tt
rules_each (r ∷ rs) h fits = let p = both_true (is_rule r) (list_all is_rule rs) h in (rule_size r p.0 fits.0, rules_each rs p.1 fits.1)

required_each : (rs : List Requirement) → list_all is_requirement rs ≡ true → AllByRecursion RequirementFits rs → AllByRecursion (λ r. size (requirement_tree r) < 2400) rs
required_each [] h fits = tt
required_each (r ∷ rs) h fits = let p = both_true (is_requirement r) (list_all is_requirement rs) h in (requirement_size r p.0 fits.0, required_each rs p.1 fits.1)

-- ---- policies

version_worth : worth (codes "version") (Some (number (unsigned 2))) ≤ 31
unfolding worth escape_byte
version_worth = omega (arith, number_size 2 (omega arith))

own_node_worth : (node : Eid) → Fits node → worth (codes "node") (Some (id_tree node)) ≤ 2066
unfolding worth escape_byte
own_node_worth node fits = omega (arith, id_size node fits)

default_worth : (d : Data) → worth (codes "default") (Some d) ≤ size d + 11
unfolding worth escape_byte
default_worth d = omega arith

rules_worth : (d : Data) → worth (codes "rules") (Some d) ≤ size d + 9
unfolding worth escape_byte
rules_worth d = omega arith

required_worth : (d : Data) → worth (codes "required") (Some d) ≤ size d + 12
unfolding worth escape_byte
required_worth d = omega arith

policy_size : (p : Parts) → IsTrue (is_policy p) → PartsFit p → size (policy_tree p) < 900000
unfolding is_policy policy_tree
policy_size p keeps fits =
    let a = both_true (nat_le (length p.rules) 256) _ keeps in
    let b = both_true (nat_le (length p.required) 64) _ a.1 in
    let c = both_true (is_default p.default_rule) _ b.1 in
    let d = both_true _ _ c.0 in
    let e = both_true (allows p.default_rule.key is_name) _ d.1 in
    let f = both_true (list_all is_rule p.rules) _ c.1 in
    let g = both_true (list_all is_requirement p.required) _ f.1 in
    let few : length p.rules ≤ 256 = leb-true (length p.rules) 256 a.0 in
    let some : length p.required ≤ 64 = leb-true (length p.required) 64 b.0 in
    let rules = array_size rule_tree 2900 p.rules (rules_each p.rules f.0 fits.rules) in
    let required = array_size requirement_tree 2400 p.required (required_each p.required g.0 fits.required) in
    omega (
      arith,
      object_size (policy_entries p),
      version_worth,
      own_node_worth p.node fits.node,
      broken_worth p.broken,
      default_worth (default_tree p.default_rule),
      default_size p.default_rule e.0,
      rules_worth (array (items_of (map rule_tree p.rules))),
      required_worth (array (items_of (map requirement_tree p.required))),
      rules,
      required,
    )

pub policy_short : (p : Parts) → IsTrue (is_policy p) → PartsFit p → length (policy_text p) < 900000
unfolding size
policy_short p keeps fits = policy_size p keeps fits
