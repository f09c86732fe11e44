-- A rule without a key lets nothing pass.
use Rattle.std.proofs.Common.{◌≡◌, ◌≢◌, ℕ, Bool, true, false, not, ◌&&◌, inl, inr, List, [], Option, Some, None, refl}
use Rattle.std.specs.Prelude.{is_some, if◌then◌else◌}
use Rattle.bpsec_asb.specs.declared.asb.Asb.{Asb}
use Rattle.bpsec_asb.specs.declared.operation.OpId.{OpId}
use Rattle.bpsec_asb.specs.declared.operation.Service.{Service}
use Rattle.bpsec_asb.specs.declared.operation.Service.TheVariants.{Bib, Bcb}
use Rattle.bpsec_context.specs.declared.judgement.Judgement.{Judgement}
use Rattle.bpsec_context.specs.declared.judgement.Judgement.TheVariants.{Right, Wrong, Misset as CannotSay}
use Rattle.bpsec_context.specs.declared.judgement.MissetReason.TheVariants.{TargetForbidden}
use Rattle.bpsec_policy.specs.declared.ring.NamedKey.{NamedKey}
use Rattle.bpsec_policy.specs.declared.rule.Role.{Role}
use Rattle.bpsec_policy.specs.declared.rule.Role.TheVariants as roles
use Rattle.bpsec_policy.specs.declared.rule.Rule.{Rule}
use Rattle.bpsec_policy.specs.declared.rule.TargetKind.{TargetKind}
use Rattle.bpsec_policy.specs.Ring.{key_of}
use Rattle.bpsec_audit.specs.declared.line.Finding.{Finding}
use Rattle.bpsec_audit.specs.Lines.{line_if}
use Rattle.bpsec_audit.specs.Rules.{has_role, no_key_lines, unknown_lines}
use Rattle.bpsec_node.specs.declared.event.Verdict.TheVariants.{Blocked, Passed, Misset, Conflict}
use Rattle.bpsec_node.specs.Situation.{Meaning, Situation}
use Rattle.bpsec_node.specs.Site.{Site, rule_over, suite_judgement, unless_narrow, judge_by, judge_over, parameters_of, is_narrow}
use Rattle.bpsec_node.specs.Ring.{key_named}
use Rattle.bpsec_node.specs.Verdict.{is_forbidden, judgement, site_of, table, verdict_at, verdict_of, verdict_with}
use Rattle.audit_laws.specs.Keyless.{NeedsKeys, IsKeyless}

-- ---- what is told

no_key : (has_role : Bool) (ring : List NamedKey) (key : Option (List ℕ)) (text : List ℕ) → line_if (has_role && not (is_some key)) text ≢ [] → key_named ring key ≡ None
unfolding line_if
no_key b ring None text told = refl
no_key true ring (Some name) text told = absurd (told refl)
no_key false ring (Some name) text told = absurd (told refl)

absent : (key : Option (List ℕ)) (text : List ℕ) → line_if (not (is_some key)) text ≢ [] → key ≡ None
unfolding line_if
absent None text told = refl
absent (Some bytes) text told = absurd (told refl)

unknown_key : (finding : Finding) (ring : List NamedKey) (name : List ℕ) (key : Option (List ℕ)) → unknown_lines finding ring name key ≢ [] → key_named ring key ≡ None
unfolding unknown_lines
unknown_key finding ring name None told = refl
unknown_key finding ring name (Some key) told = absent (key_of ring key) _ told

pub keyless : (ring : List NamedKey) (rule : Rule) → IsKeyless ring rule → key_named ring rule.key ≡ None
unfolding no_key_lines
keyless ring rule (inl told) = no_key (has_role rule.role) ring rule.key _ told
keyless ring rule (inr told) = unknown_key _ ring rule.name rule.key told

-- ---- verdicts

not_right : (narrow : Bool) (judged : Judgement) → judged ≢ Right → unless_narrow narrow judged ≢ Right
not_right narrow (CannotSay reason) not e = not e
not_right narrow Right not e = absurd (not refl)
not_right true Wrong not e = absurd cc
not_right false Wrong not e = not e

suite_not_right : (suite : Meaning) (site : Site) (op : OpId) (service : Service) (asb : Asb) → NeedsKeys suite → suite_judgement suite site op service None asb ≢ Right
suite_not_right suite site op Bib asb needs = needs.judged _ _ _ _
suite_not_right suite site op Bcb asb needs = needs.checked _ _ _ _ _

judged_not_right : (suite : Meaning) (least : Option ℕ) (site : Site) (op : OpId) (asb : Option Asb) → NeedsKeys suite → judge_by suite least site op None asb ≢ Right
judged_not_right suite least site op None needs e = absurd cc
judged_not_right suite least site op (Some asb) needs e =
    not_right (is_narrow least (suite.scope asb.context (parameters_of asb))) _ (suite_not_right suite site op op.service asb needs) e

not_passed : (judged : Judgement) → judged ≢ Right → verdict_of judged ≢ Passed
not_passed Right not e = not refl
not_passed Wrong not e = absurd cc
not_passed (CannotSay reason) not e = absurd cc

at_not_passed : (target : Option TargetKind) (service : Service) (conflict blocked : Bool) (judged : Judgement) → judged ≢ Right → verdict_at target service conflict blocked judged ≢ Passed
at_not_passed None service conflict blocked judged not = λ e. absurd cc
at_not_passed (Some kind) service conflict blocked judged not = go (is_forbidden service kind) conflict blocked
  where
    go : (f c b : Bool) → (if f then Misset TargetForbidden else if c then Conflict else if b then Blocked else verdict_of judged) ≢ Passed
    go true c b e = absurd cc
    go false true b e = absurd cc
    go false false true e = absurd cc
    go false false false e = not_passed judged not e

table_not_passed : (role : Role) (target : Option TargetKind) (service : Service) (conflict blocked : Bool) (judged : Judgement) → judged ≢ Right → table role target service conflict blocked judged ≢ Passed
table_not_passed roles.None target service conflict blocked judged not = λ e. absurd cc
table_not_passed roles.Verifier target service conflict blocked judged not = at_not_passed target service conflict blocked judged not
table_not_passed roles.Acceptor target service conflict blocked judged not = at_not_passed target service conflict blocked judged not

pub without_key : (s : Situation) (conflict : Bool) (op : OpId) → NeedsKeys s.suite → s.key op ≡ None → verdict_with s conflict op ≢ Passed
unfolding verdict_with judgement judge_over
without_key s conflict op needs none =
    table_not_passed _ _ op.service conflict _ _ (rw none (judged_not_right s.suite (rule_over s.policy (site_of s op) op).least_scope (site_of s op) op _ needs))
