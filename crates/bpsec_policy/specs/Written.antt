-- The tree of a policy, as a text of version 2. Absent keys are left out. Its text is the compact form of JSON (RFC 8259),
-- as the crate `serde_json` states it: no space, keys in order.
use Rattle.std.specs.Prelude.{ℕ, List, [], ◌∷◌, ◌++◌, map, codes, Option, Some, None, option_map}
use Rattle.serde_json.specs.Data.{Data, string, number, array, object, unsigned, Members, no_members, put}
use Rattle.serde_json.specs.Find.{of_integer}
use Rattle.serde_json.specs.View.{items_of}
use Rattle.serde_json.specs.Written.{compact_text}
use Rattle.bp_eid.specs.declared.eid.Eid.{Eid}
use Rattle.bp_eid.specs.EndpointId.{text_form}
use Rattle.bpsec_policy.specs.declared.rule.TargetKind.{TargetKind}
use Rattle.bpsec_policy.specs.declared.rule.TargetKind.TheVariants.{Primary, Kind}
use Rattle.bpsec_policy.specs.declared.rule.Rule.{Rule}
use Rattle.bpsec_policy.specs.declared.rule.Patterns.{Patterns}
use Rattle.bpsec_policy.specs.declared.rule.RuleAt.{RuleAt}
use Rattle.bpsec_policy.specs.declared.rule.Requirement.{Requirement}
use Rattle.bpsec_policy.specs.Rules.{Parts}
use Rattle.bpsec_policy.specs.Words.{role_word, action_word, service_word}

-- a key and its value, if it has one
abbrev pub Entry : Type 0
Entry = List ℕ × Option Data

-- the members with this value at the key
abbrev pub with : List ℕ → Option Data → Members → Members
with key None members = members
with key (Some d) members = put key d members

-- the members with these entries put in, one after the other
abbrev pub entered : Members → List Entry → Members
entered members [] = members
entered members (e ∷ es) = entered (with e.0 e.1 members) es

abbrev pub id_tree : Eid → Data
id_tree eid = string (text_form eid)

abbrev pub target_tree : TargetKind → Data
target_tree Primary = string (codes "primary")
target_tree (Kind n) = number (unsigned n)

abbrev pub acting_entries : Rule → List Entry
acting_entries rule =
    (codes "role", Some (string (role_word rule.role)))
    ∷ (codes "failed", Some (string (action_word rule.failed)))
    ∷ (codes "misset", Some (string (action_word rule.misset)))
    ∷ (codes "key", option_map string rule.key)
    ∷ []

abbrev pub source_entries : Patterns → List Entry
source_entries p =
    (codes "service", option_map (λ s. string (service_word s)) p.service)
    ∷ (codes "source", option_map id_tree p.source)
    ∷ (codes "source_node", option_map id_tree p.source_node)
    ∷ []

abbrev pub target_entries : Patterns → List Entry
target_entries p =
    (codes "context", option_map (λ z. number (of_integer z)) p.context)
    ∷ (codes "targets", option_map (λ kinds. array (items_of (map target_tree kinds))) p.targets)
    ∷ []

abbrev pub name_entries : RuleAt → List Entry
name_entries r =
    (codes "name", Some (string r.rule.name))
    ∷ (codes "least_scope", option_map (λ bits. number (unsigned bits)) r.rule.least_scope)
    ∷ []

abbrev pub rule_entries : RuleAt → List Entry
rule_entries r = name_entries r ++ (acting_entries r.rule ++ (source_entries r.patterns ++ target_entries r.patterns))

unfoldable pub rule_tree : RuleAt → Data
rule_tree r = object (entered no_members (rule_entries r))

abbrev pub requirement_entries : Requirement → List Entry
requirement_entries r =
    (codes "name", Some (string r.name))
    ∷ (codes "target", Some (target_tree r.target))
    ∷ (codes "service", Some (string (service_word r.service)))
    ∷ (codes "missing", Some (string (action_word r.missing)))
    ∷ (codes "from", option_map id_tree r.from)
    ∷ []

unfoldable pub requirement_tree : Requirement → Data
requirement_tree r = object (entered no_members (requirement_entries r))

unfoldable pub default_tree : Rule → Data
default_tree rule = object (entered no_members (acting_entries rule))

abbrev pub head_entries : Parts → List Entry
head_entries p =
    (codes "version", Some (number (unsigned 2)))
    ∷ (codes "node", Some (id_tree p.node))
    ∷ (codes "broken", Some (string (action_word p.broken)))
    ∷ (codes "default", Some (default_tree p.default_rule))
    ∷ []

abbrev pub list_entries : Parts → List Entry
list_entries p =
    (codes "rules", Some (array (items_of (map rule_tree p.rules))))
    ∷ (codes "required", Some (array (items_of (map requirement_tree p.required))))
    ∷ []

abbrev pub policy_entries : Parts → List Entry
policy_entries p = head_entries p ++ list_entries p

unfoldable pub policy_tree : Parts → Data
policy_tree p = object (entered no_members (policy_entries p))

-- the text of version 2
abbrev pub policy_text : Parts → List ℕ
policy_text p = compact_text (policy_tree p)
