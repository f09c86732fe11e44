-- What is told of rules and requirements, a line for each finding.
use Rattle.std.specs.Prelude.{ℕ, ◌==◌, ◌&&◌, ◌||◌, Bool, true, false, not, List, [], ◌∷◌, ◌++◌, length, codes, if◌then◌else◌, Option, Some, None, is_some}
use Rattle.std.specs.List.{list_any}
use Rattle.bpsec_asb.specs.declared.operation.Service.{Service}
use Rattle.bpsec_asb.specs.declared.operation.Service.TheVariants.{Bib, Bcb}
use Rattle.bpsec_policy.specs.declared.rule.Action.{Action}
use Rattle.bpsec_policy.specs.declared.rule.Action.TheVariants.{Keep, Remove, Discard}
use Rattle.bpsec_policy.specs.declared.rule.Role.{Role}
use Rattle.bpsec_policy.specs.declared.rule.Role.TheVariants as roles
use Rattle.bpsec_policy.specs.declared.rule.TargetKind.{TargetKind}
use Rattle.bpsec_policy.specs.declared.rule.TargetKind.TheVariants.{Kind}
use Rattle.bpsec_policy.specs.declared.rule.Rule.{Rule}
use Rattle.bpsec_policy.specs.declared.rule.RuleAt.{RuleAt}
use Rattle.bpsec_policy.specs.declared.rule.Requirement.{Requirement}
use Rattle.bpsec_policy.specs.declared.ring.NamedKey.{NamedKey}
use Rattle.bpsec_policy.specs.Ring.{key_of}
use Rattle.bpsec_policy.specs.Rules.{same_kind}
use Rattle.bpsec_audit.specs.declared.line.Finding.TheVariants.{DeadRule, KeylessRule, UnknownKeyOfRule, KeyLength, RuleForType0, KeepingRule, RequirementForType0, KeepingRequirement, NoRequirement}
use Rattle.bpsec_audit.specs.declared.line.Finding.{Finding}
use Rattle.bpsec_audit.specs.Lines.{line, line_of_two, line_if}
use Rattle.bpsec_audit.specs.Reach.{match_nothing, wider_before}

-- ---- a rule that can't decide

unfoldable pub dead_by : List ℕ → Option RuleAt → List (List ℕ)
dead_by name None = []
dead_by name (Some other) = line_of_two DeadRule name other.rule.name ∷ []

-- before it stand these
unfoldable pub dead_lines : List RuleAt → RuleAt → List (List ℕ)
dead_lines before r =
    if match_nothing r.patterns
    then line_of_two DeadRule r.rule.name (codes "-") ∷ []
    else dead_by r.rule.name (wider_before before r)

-- ---- keys of rules

abbrev pub has_role : Role → Bool
has_role roles.None = false
has_role roles.Verifier = true
has_role roles.Acceptor = true

unfoldable pub no_key_lines : Rule → List (List ℕ)
no_key_lines rule = line_if (has_role rule.role && not (is_some rule.key)) (line KeylessRule rule.name)

-- the name of a key that the ring lacks
abbrev pub is_unknown : List NamedKey → List ℕ → Bool
is_unknown ring key = not (is_some (key_of ring key))

-- the line of a key that the ring lacks, and of what names it
unfoldable pub unknown_lines : Finding → List NamedKey → List ℕ → Option (List ℕ) → List (List ℕ)
unknown_lines finding ring name None = []
unknown_lines finding ring name (Some key) = line_if (is_unknown ring key) (line_of_two finding name key)

-- a key of AES: 16 or 32 bytes
abbrev pub has_wrong_length : Option (List ℕ) → Bool
has_wrong_length None = false
has_wrong_length (Some key) = not (length key == 16 || length key == 32)

abbrev pub is_cipher : Option Service → Bool
is_cipher None = false
is_cipher (Some Bib) = false
is_cipher (Some Bcb) = true

unfoldable pub length_of_key : List NamedKey → List ℕ → Option (List ℕ) → List (List ℕ)
length_of_key ring name None = []
length_of_key ring name (Some key) =
    line_if (has_wrong_length (key_of ring key)) (line_of_two KeyLength name key)

unfoldable pub length_lines : List NamedKey → RuleAt → List (List ℕ)
length_lines ring r = if is_cipher r.patterns.service then length_of_key ring r.rule.name r.rule.key else []

-- ---- targets and actions

abbrev pub has_type_0 : Option (List TargetKind) → Bool
has_type_0 None = false
has_type_0 (Some kinds) = list_any (same_kind (Kind 0)) kinds

abbrev pub is_keep : Action → Bool
is_keep Keep = true
is_keep Remove = false
is_keep Discard = false

-- something that isn't as it should be is kept
abbrev pub keeps : Rule → Bool
keeps rule = is_keep rule.failed || is_keep rule.misset

unfoldable pub keeps_lines : Rule → List (List ℕ)
keeps_lines rule = line_if (has_role rule.role && keeps rule) (line KeepingRule rule.name)

-- ---- all of a rule, of the default rule, of a requirement

unfoldable pub rule_lines : List NamedKey → List RuleAt → RuleAt → List (List ℕ)
rule_lines ring before r =
    dead_lines before r
    ++ (no_key_lines r.rule
    ++ (unknown_lines UnknownKeyOfRule ring r.rule.name r.rule.key
    ++ (length_lines ring r
    ++ (line_if (has_type_0 r.patterns.targets) (line RuleForType0 r.rule.name)
    ++ keeps_lines r.rule))))

unfoldable pub default_lines : List NamedKey → Rule → List (List ℕ)
default_lines ring rule =
    no_key_lines rule
    ++ (unknown_lines UnknownKeyOfRule ring rule.name rule.key
    ++ keeps_lines rule)

unfoldable pub requirement_lines : Requirement → List (List ℕ)
requirement_lines r =
    line_if (same_kind r.target (Kind 0)) (line RequirementForType0 r.name)
    ++ line_if (is_keep r.missing) (line KeepingRequirement r.name)

abbrev pub is_of_integrity : Requirement → Bool
is_of_integrity r = not (is_cipher (Some r.service))

-- where no requirement is of integrity
unfoldable pub no_requirement_lines : List Requirement → List (List ℕ)
no_requirement_lines required = line_if (not (list_any is_of_integrity required)) (line NoRequirement (codes "bib"))
