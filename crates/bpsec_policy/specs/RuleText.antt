-- The texts of rules and requirements.
use Rattle.std.specs.Prelude.{ℕ, ◌==◌, ◌&&◌, ◌||◌, Bool, true, false, not, nat_le, if◌then◌else◌, List, [], ◌∷◌, length, codes, is_some, option_map, unwrap_or, Option, Some, None, Result, Ok, Err}
use Rattle.std.specs.List.{list_all}
use Rattle.std.specs.Str.{bytes_eq}
use Rattle.cbor_profile.specs.Step.{◌>>=◌}
use Rattle.serde_json.specs.Data.{Data}
use Rattle.serde_json.specs.Find.{get, as_str}
use Rattle.bp_eid.specs.declared.eid.Eid.{Eid}
use Rattle.bp_text.specs.declared.fault.TextReason.{TextReason}
use Rattle.bp_text.specs.declared.fault.TextReason.TheVariants.{WrongShape, UnknownWord}
use Rattle.bp_text.specs.declared.shape.Kind.TheVariants.{Text, Name, Number, Signed}
use Rattle.bp_text.specs.Fault.{unless, wanted}
use Rattle.bp_text.specs.Tree.{values_of, number_at, signed_at, list_at}
use Rattle.bp_text.specs.Shape.{has, has_only, may_have, passes, whole}
use Rattle.bp_text.specs.Field.{bytes_at, eid_at, word_at, optional}
use Rattle.bpsec_policy.specs.declared.rule.TargetKind.{TargetKind}
use Rattle.bpsec_policy.specs.declared.rule.TargetKind.TheVariants.{Primary, Kind}
use Rattle.bpsec_policy.specs.declared.rule.Rule.{Rule}
use Rattle.bpsec_policy.specs.declared.rule.Patterns.{Patterns}
use Rattle.bpsec_policy.specs.declared.rule.RuleAt.{RuleAt}
use Rattle.bpsec_policy.specs.declared.rule.Requirement.{Requirement}
use Rattle.bpsec_policy.specs.Words.{role_of, action_of, service_of}

-- ---- targets: a block type as a number, or the word `primary`

abbrev pub is_target : Data → Bool
is_target d = is_some (whole d) || is_some (as_str d)

abbrev pub kind_of : Option ℕ → Option (List ℕ) → Result TargetKind TextReason
kind_of (Some n) text = Ok (Kind n)
kind_of None (Some word) = if bytes_eq word (codes "primary") then Ok Primary else Err UnknownWord
kind_of None None = Err WrongShape

abbrev pub target_of : Data → Result TargetKind TextReason
target_of d = kind_of (whole d) (as_str d)

abbrev pub target_at : List ℕ → Data → Result TargetKind TextReason
target_at key tree = wanted WrongShape (get key tree) >>= target_of

-- 1 to 16 of them
abbrev pub are_targets : Data → Bool
are_targets d = passes (λ ds. nat_le 1 (length ds) && (nat_le (length ds) 16 && list_all is_target ds)) (values_of d)

abbrev pub targets_of : List Data → Result (List TargetKind) TextReason
targets_of [] = Ok []
targets_of (d ∷ ds) = do
  kind ← target_of d
  kinds ← targets_of ds
  Ok (kind ∷ kinds)

abbrev pub targets_at : List ℕ → Data → Result (List TargetKind) TextReason
targets_at key tree = wanted WrongShape (list_at key tree) >>= targets_of

-- the value of the key passes, if the tree has the key
abbrev pub may_pass : (Data → Bool) → List ℕ → Data → Bool
may_pass test key tree = unwrap_or (option_map test (get key tree)) true

-- ---- what a rule and the default share: `role`, `failed`, `misset` and, where wanted, `key`

unfoldable pub is_acting_shape : Data → Bool
is_acting_shape d =
    has Text (codes "role") d && (has Text (codes "failed") d && (has Text (codes "misset") d
    && may_have Name (codes "key") d))

-- with this name and this least scope
unfoldable pub acting_at : List ℕ → Option ℕ → Data → Result Rule TextReason
acting_at name least_scope d = do
  role ← word_at role_of (codes "role") d
  failed ← word_at action_of (codes "failed") d
  misset ← word_at action_of (codes "misset") d
  key ← optional bytes_at (codes "key") d
  Ok (record { name = name; role = role; key = key; failed = failed; misset = misset; least_scope = least_scope })

unfoldable pub is_default_shape : Data → Bool
is_default_shape d =
    has_only (codes "role" ∷ codes "failed" ∷ codes "misset" ∷ codes "key" ∷ []) d && is_acting_shape d

unfoldable pub default_at : Data → Result Rule TextReason
default_at d = do
  shape ← unless (is_default_shape d) WrongShape
  acting_at (codes "default") None d

-- ---- a rule: also `name` and, where wanted, `service`, `source`, `context`; in version 1 `target`; in version 2
-- ---- `source_node`, but not beside `source`, `targets` and `least_scope`

abbrev pub rule_keys : ℕ → List (List ℕ)
rule_keys version =
    if version == 1
    then codes "name" ∷ codes "role" ∷ codes "failed" ∷ codes "misset" ∷ codes "key" ∷ codes "service" ∷ codes "source" ∷ codes "context"
    ∷ codes "target" ∷ []
    else codes "name" ∷ codes "role" ∷ codes "failed" ∷ codes "misset" ∷ codes "key" ∷ codes "service" ∷ codes "source" ∷ codes "context"
    ∷ codes "source_node" ∷ codes "targets" ∷ codes "least_scope" ∷ []

abbrev pub are_sources : Data → Bool
are_sources d =
    may_have Text (codes "source") d && (may_have Text (codes "source_node") d
    && not (is_some (get (codes "source") d) && is_some (get (codes "source_node") d)))

abbrev pub may_have_targets : Data → Bool
may_have_targets d = may_pass is_target (codes "target") d && may_pass are_targets (codes "targets") d

unfoldable pub are_patterns_shape : Data → Bool
are_patterns_shape d =
    may_have Text (codes "service") d && (are_sources d && (may_have Signed (codes "context") d && may_have_targets d))

unfoldable pub is_rule_shape : ℕ → Data → Bool
is_rule_shape version d =
    has_only (rule_keys version) d && (has Name (codes "name") d && (is_acting_shape d && (are_patterns_shape d
    && may_have (Number 7) (codes "least_scope") d)))

-- A target of version 1 is a list of one kind.
abbrev pub either_at : Data → Result (Option (List TargetKind)) TextReason
either_at d =
    if is_some (get (codes "target") d)
    then (target_at (codes "target") d >>= λ kind. Ok (Some (kind ∷ [])))
    else optional targets_at (codes "targets") d

abbrev pub sources_at : Data → Result (Option Eid × Option Eid) TextReason
sources_at d = do
  source ← optional eid_at (codes "source") d
  source_node ← optional eid_at (codes "source_node") d
  Ok (source, source_node)

unfoldable pub patterns_at : Data → Result Patterns TextReason
patterns_at d = do
  service ← optional (word_at service_of) (codes "service") d
  sources ← sources_at d
  targets ← either_at d
  Ok (record { service = service; source = sources.0; source_node = sources.1; context = signed_at (codes "context") d; targets = targets })

unfoldable pub rule_at : ℕ → Data → Result RuleAt TextReason
rule_at version d = do
  shape ← unless (is_rule_shape version d) WrongShape
  name ← bytes_at (codes "name") d
  rule ← acting_at name (number_at (codes "least_scope") d) d
  patterns ← patterns_at d
  Ok (record { patterns = patterns; rule = rule })

-- ---- a requirement: `name`, `target` (but not of security blocks), `service`, `missing` and, where wanted, `from`

abbrev pub is_plain_target : Data → Bool
is_plain_target d = is_target d && not (unwrap_or (option_map (λ n. n == 11 || n == 12) (whole d)) false)

unfoldable pub is_requirement_shape : Data → Bool
is_requirement_shape d =
    has_only (codes "name" ∷ codes "target" ∷ codes "service" ∷ codes "missing" ∷ codes "from" ∷ []) d
    && (has Name (codes "name") d && (passes is_plain_target (get (codes "target") d)
    && (has Text (codes "service") d && (has Text (codes "missing") d && may_have Text (codes "from") d))))

unfoldable pub requirement_at : Data → Result Requirement TextReason
requirement_at d = do
  shape ← unless (is_requirement_shape d) WrongShape
  name ← bytes_at (codes "name") d
  target ← target_at (codes "target") d
  service ← word_at service_of (codes "service") d
  from ← optional eid_at (codes "from") d
  missing ← word_at action_of (codes "missing") d
  Ok (record { name = name; target = target; service = service; from = from; missing = missing })
