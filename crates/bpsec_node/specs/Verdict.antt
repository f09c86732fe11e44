-- The verdict on a security operation.
use Rattle.std.specs.Prelude.{ℕ, ◌==◌, ◌&&◌, ◌||◌, Bool, true, false, not, if◌then◌else◌, List, Option, Some, None, is_some, is_none}
use Rattle.std.specs.List.{list_any}
use Rattle.bpsec_asb.specs.declared.operation.OpId.{OpId}
use Rattle.bpsec_asb.specs.declared.operation.Service.{Service}
use Rattle.bpsec_asb.specs.declared.operation.Service.TheVariants.{Bib, Bcb}
use Rattle.bpsec_context.specs.declared.judgement.Judgement.{Judgement}
use Rattle.bpsec_context.specs.declared.judgement.Judgement.TheVariants.{Right, Wrong, Misset as CannotSay}
use Rattle.bpsec_context.specs.declared.judgement.MissetReason.TheVariants.{NoTarget, TargetForbidden}
use Rattle.bpsec_policy.specs.declared.rule.TargetKind.{TargetKind}
use Rattle.bpsec_policy.specs.declared.rule.TargetKind.TheVariants.{Primary, Kind}
use Rattle.bpsec_policy.specs.declared.rule.Role.{Role}
use Rattle.bpsec_policy.specs.declared.rule.Role.TheVariants as roles
use Rattle.bpsec_policy.specs.declared.rule.Rule.{Rule}
use Rattle.bpsec_node.specs.declared.event.Verdict.{Verdict}
use Rattle.bpsec_node.specs.declared.event.Verdict.TheVariants.{NotOurs, Blocked, Passed, Failed, Misset, Conflict}
use Rattle.bpsec_node.specs.Situation.{Situation}
use Rattle.bpsec_node.specs.Site.{Site, site, kind_at, rule_over, role_over, judge_over}
use Rattle.bpsec_node.specs.Plain.{cover, is_opened, plain}
use Rattle.bpsec_node.specs.AllOperations.{all_operations}

-- ---- an operation in its situation

-- An integrity operation is over the plain bodies, a confidentiality operation over the received ones.
abbrev pub site_by : Situation → OpId → Service → Site
site_by s op Bib = site (plain s) op
site_by s op Bcb = site s.bundle op

unfoldable pub site_of : Situation → OpId → Site
site_of s op = site_by s op op.service

unfoldable pub rule : Situation → OpId → Rule
rule s op = rule_over s.policy (site_of s op) op

unfoldable pub role : Situation → OpId → Role
role s op = role_over s.policy (site_of s op) op

unfoldable pub judgement : Situation → OpId → Judgement
judgement s op = judge_over s.suite s.policy (site_of s op) op (s.key op)

-- ---- the table

-- Types that a service doesn't apply to (RFC 9172, sections 3.7 and 3.8): integrity to no security block, confidentiality
-- neither to the primary block nor to another of its own kind.
abbrev pub is_forbidden : Service → TargetKind → Bool
is_forbidden Bib Primary = false
is_forbidden Bib (Kind kind) = kind == 11 || kind == 12
is_forbidden Bcb Primary = true
is_forbidden Bcb (Kind kind) = kind == 12

abbrev pub has_no_role : Role → Bool
has_no_role roles.None = true
has_no_role roles.Verifier = false
has_no_role roles.Acceptor = false

abbrev pub verdict_of : Judgement → Verdict
verdict_of Right = Passed
verdict_of Wrong = Failed
verdict_of (CannotSay reason) = Misset reason

-- the lines that look at a target that is there
abbrev pub verdict_at : Option TargetKind → Service → Bool → Bool → Judgement → Verdict
verdict_at None service conflict blocked judged = Misset NoTarget
verdict_at (Some kind) service conflict blocked judged =
    if is_forbidden service kind then Misset TargetForbidden
    else if conflict then Conflict
    else if blocked then Blocked
    else verdict_of judged

-- The first line that applies: the node has no role in it; its target isn't there; the target's type is forbidden; it is in
-- conflict; it is blocked; and else how it is judged.
abbrev pub table : Role → Option TargetKind → Service → Bool → Bool → Judgement → Verdict
table role target service conflict blocked judged = if has_no_role role then NotOurs else verdict_at target service conflict blocked judged

-- ---- verdicts

abbrev pub is_bib : Service → Bool
is_bib Bib = true
is_bib Bcb = false

-- another integrity operation has the same target
unfoldable pub in_conflict : List OpId → OpId → Bool
in_conflict ops op = is_bib op.service && list_any (λ other. is_bib other.service && (other.target == op.target && not (other.block == op.block))) ops

-- an integrity operation whose target is covered and wasn't opened
unfoldable pub is_blocked : Situation → OpId → Bool
is_blocked s op = is_bib op.service && (is_some (cover s.bundle.blocks op.target) && not (is_opened s op.target))

unfoldable pub verdict_with : Situation → Bool → OpId → Verdict
verdict_with s conflict op =
    table (role s op) (kind_at op.target (site_of s op).target) op.service conflict (is_blocked s op) (judgement s op)

-- the verdict of a step, which leaves out the line of conflicts
unfoldable pub step_verdict : Situation → OpId → Verdict
step_verdict s op = verdict_with s false op

unfoldable pub verdict : Situation → OpId → Verdict
verdict s op = verdict_with s (in_conflict (all_operations s) op) op
