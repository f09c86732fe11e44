-- Rules without a key, and suites that need one.
use Rattle.std.specs.Prelude.{◌≢◌, ◌⊎◌, ℕ, ℤ, List, [], None}
use Rattle.bpsec_asb.specs.declared.asb.Pair.{Pair}
use Rattle.bpsec_scope.specs.Parts.{Parts}
use Rattle.bpsec_context.specs.declared.judgement.Judgement.TheVariants.{Right}
use Rattle.bpsec_policy.specs.declared.rule.Rule.{Rule}
use Rattle.bpsec_policy.specs.declared.ring.NamedKey.{NamedKey}
use Rattle.bpsec_audit.specs.declared.line.Finding.TheVariants.{UnknownKeyOfRule}
use Rattle.bpsec_audit.specs.Rules.{no_key_lines, unknown_lines}
use Rattle.bpsec_node.specs.Situation.{Meaning}

-- without a key nothing is judged Right
pub record NeedsKeys (suite : Meaning) : Type 0 where
  pub judged : (context : ℤ) (parameters results : List Pair) (parts : Parts) → suite.judged context None parameters results parts ≢ Right
  pub checked : (context : ℤ) (parameters results : List Pair) (parts : Parts) (body : List ℕ) → suite.checked context None parameters results parts body ≢ Right

-- `no-key` or `unknown-key` is told of the rule
abbrev pub IsKeyless : List NamedKey → Rule → Type 0
IsKeyless ring rule = (no_key_lines rule ≢ []) ⊎ (unknown_lines UnknownKeyOfRule ring rule.name rule.key ≢ [])
