-- The text of a policy: `version` (1 or 2), `node` (id), `broken` (action), `default` (an object), `rules` (0 to 256),
-- `required` (0 to 64). Requirements count on after the rules, and their names differ from the rules' too.
use Rattle.std.specs.Prelude.{ℕ, ◌&&◌, Bool, List, [], ◌∷◌, length, codes, Result, Ok}
use Rattle.cbor_profile.specs.Step.{◌>>=◌}
use Rattle.serde_json.specs.Data.{Data}
use Rattle.serde_json.specs.Find.{get}
use Rattle.bp_text.specs.declared.fault.TextReason.{TextReason}
use Rattle.bp_text.specs.declared.fault.TextReason.TheVariants.{WrongShape, TooMany}
use Rattle.bp_text.specs.declared.fault.TextFault.{TextFault}
use Rattle.bp_text.specs.declared.shape.Kind.TheVariants.{Text, Object, Array}
use Rattle.bp_text.specs.Fault.{unless, wanted, top}
use Rattle.bp_text.specs.Tree.{tree_of, list_at}
use Rattle.bp_text.specs.Shape.{has, has_only}
use Rattle.bp_text.specs.Field.{eid_at, word_at}
use Rattle.bp_text.specs.Top.{version_at, is_short}
use Rattle.bp_text.specs.Entries.{entries_at, taken_by}
use Rattle.bp_eid.specs.declared.eid.Eid.{Eid}
use Rattle.bpsec_policy.specs.declared.rule.Action.{Action}
use Rattle.bpsec_policy.specs.declared.rule.Rule.{Rule}
use Rattle.bpsec_policy.specs.declared.rule.RuleAt.{RuleAt}
use Rattle.bpsec_policy.specs.declared.rule.Requirement.{Requirement}
use Rattle.bpsec_policy.specs.Rules.{Parts}
use Rattle.bpsec_policy.specs.Policy.{reserved}
use Rattle.bpsec_policy.specs.Words.{action_of}
use Rattle.bpsec_policy.specs.RuleText.{default_at, rule_at, requirement_at}

unfoldable pub has_head : Data → Bool
has_head d = has Text (codes "node") d && (has Text (codes "broken") d && has Object (codes "default") d)

unfoldable pub has_lists : Data → Bool
has_lists d = has (Array 0) (codes "rules") d && has (Array 0) (codes "required") d

unfoldable pub has_policy_keys : Data → Bool
has_policy_keys d =
    has_only (codes "version" ∷ codes "node" ∷ codes "broken" ∷ codes "default" ∷ codes "rules" ∷ codes "required" ∷ []) d

unfoldable pub is_policy_shape : Data → Bool
is_policy_shape d = has_policy_keys d && (has_head d && has_lists d)

-- the top's own fields: node, action for broken blocks, default rule
unfoldable pub head_at : Data → Result (Eid × Action × Rule) TextReason
head_at d = do
  node ← eid_at (codes "node") d
  broken ← word_at action_of (codes "broken") d
  rest ← wanted WrongShape (get (codes "default") d) >>= default_at
  Ok (node, broken, rest)

-- rules, and then requirements
unfoldable pub lists_at : ℕ → Data → Result (List RuleAt × List Requirement) TextFault
lists_at version d = do
  rules ← top (wanted WrongShape (list_at (codes "rules") d))
  required ← top (wanted WrongShape (list_at (codes "required") d))
  xs ← entries_at (rule_at version) 0 reserved rules
  ys ← entries_at requirement_at (length rules) (taken_by reserved rules) required
  Ok (xs, ys)

abbrev pub parts_of : Eid × Action × Rule → List RuleAt × List Requirement → Parts
parts_of head lists =
    record { node = head.0; broken = head.1; default_rule = head.2; rules = lists.0; required = lists.1 }

unfoldable pub policy_at : Data → Result Parts TextFault
policy_at d = do
  version ← top (version_at (1 ∷ 2 ∷ []) d)
  shape ← top (unless (is_policy_shape d) WrongShape)
  few ← top (unless (is_short 256 (codes "rules") d && is_short 64 (codes "required") d) TooMany)
  head ← top (head_at d)
  lists ← lists_at version d
  Ok (parts_of head lists)

-- the policy that the bytes are the text of, or the first fault
abbrev pub policy_of : List ℕ → Result Parts TextFault
policy_of bytes = top (tree_of bytes) >>= policy_at
