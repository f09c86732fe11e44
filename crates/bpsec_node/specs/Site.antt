-- An operation over the blocks of some bundle: what it applies to, its rule and role, and how it is judged.
use Rattle.std.specs.Prelude.{ℕ, ◌==◌, Bool, true, false, not, if◌then◌else◌, bit_and, List, [], find, position, slice_get, Option, Some, None, is_some, unwrap_or, option_map}
use Rattle.std.specs.Result.{result_ok}
use Rattle.bp_primary.specs.declared.primary.Primary.{Primary}
use Rattle.bp_blocks.specs.declared.block.Block.{Block}
use Rattle.bp_bundle.specs.Shape.{Contents}
use Rattle.bpsec_asb.specs.declared.asb.Asb.{Asb}
use Rattle.bpsec_asb.specs.declared.asb.Pair.{Pair}
use Rattle.bpsec_asb.specs.declared.operation.OpId.{OpId}
use Rattle.bpsec_asb.specs.declared.operation.Service.{Service}
use Rattle.bpsec_asb.specs.declared.operation.Service.TheVariants.{Bib, Bcb}
use Rattle.bpsec_asb.specs.Reading.{read_body}
use Rattle.bpsec_scope.specs.declared.header.Header.{Header}
use Rattle.bpsec_scope.specs.Target.{Target, PrimaryBlock, Body, Sealed}
use Rattle.bpsec_scope.specs.Parts.{Parts}
use Rattle.bpsec_context.specs.declared.judgement.Judgement.{Judgement}
use Rattle.bpsec_context.specs.declared.judgement.Judgement.TheVariants.{Right, Wrong, Misset}
use Rattle.bpsec_context.specs.declared.judgement.MissetReason.TheVariants.{NarrowScope}
use Rattle.bpsec_policy.specs.declared.rule.TargetKind.{TargetKind}
use Rattle.bpsec_policy.specs.declared.rule.TargetKind.TheVariants.{Primary as OfPrimary, Kind}
use Rattle.bpsec_policy.specs.declared.rule.Rule.{Rule}
use Rattle.bpsec_policy.specs.declared.rule.Role.{Role}
use Rattle.bpsec_policy.specs.Rules as policies
use Rattle.bpsec_policy.specs.Rules.{rule_of, role_at}
use Rattle.bpsec_node.specs.Situation.{Meaning}

-- ---- what an operation is over

-- the canonical block with a number
abbrev pub block_at : List Block → ℕ → Option Block
block_at blocks number = find (λ block. block.number == number) blocks

-- The primary block, the security block that holds the operation, and the canonical block that it targets. A target that is
-- the primary block, or isn't there, is none.
pub record Site : Type 0 where
  pub primary : Primary
  pub security : Option Block
  pub target : Option Block

unfoldable pub site : Contents → OpId → Site
site bundle op = record { primary = bundle.primary; security = block_at bundle.blocks op.block; target = block_at bundle.blocks op.target }

-- The kind of the block with a number: 0 is the primary block (RFC 9171, section 4.1). Of a block that isn't
-- there there is none.
abbrev pub kind_at : ℕ → Option Block → Option TargetKind
kind_at number block = if number == 0 then Some OfPrimary else option_map (λ b. Kind b.kind) block

-- the security block whose body this block has, if it is readable
abbrev pub asb_in : Option Block → Option Asb
asb_in None = None
asb_in (Some block) = result_ok (read_body block.body)

-- ---- rule and role

abbrev pub rule_by : policies.Parts → Service → Option TargetKind → Option Asb → Rule
rule_by policy service target None = policy.default_rule
rule_by policy service target (Some asb) = rule_of policy service asb.source asb.context target

unfoldable pub rule_over : policies.Parts → Site → OpId → Rule
rule_over policy site op = rule_by policy op.service (kind_at op.target site.target) (asb_in site.security)

unfoldable pub role_over : policies.Parts → Site → OpId → Role
role_over policy site op = role_at policy (rule_over policy site op) op.service site.primary.destination

-- ---- judgement

-- the parameters of a security block (RFC 9172, section 3.6)
abbrev pub parameters_of : Asb → List Pair
parameters_of asb = unwrap_or asb.parameters []

-- the results for a target, which stand in the targets' order
abbrev pub results_at : Option ℕ → List (List Pair) → List Pair
results_at None results = []
results_at (Some place) results = unwrap_or (slice_get results place) []

abbrev pub results_of : Asb → ℕ → List Pair
results_of asb target = results_at (position (λ listed. listed == target) asb.targets) asb.results

abbrev pub header_of : Block → Header
header_of block = record { kind = block.kind; number = block.number; flags = block.flags }

abbrev pub security_header : Option Block → Header
security_header None = record { kind = 0; number = 0; flags = 0 }
security_header (Some block) = header_of block

abbrev pub body_in : Option Block → List ℕ
body_in None = []
body_in (Some block) = block.body

-- what integrity applies to: the primary block, or a body
abbrev pub integrity_target : ℕ → Option Block → Target
integrity_target number None = PrimaryBlock
integrity_target number (Some block) = if number == 0 then PrimaryBlock else Body block.body

abbrev pub target_by : Service → ℕ → Option Block → Target
target_by Bib number block = integrity_target number block
target_by Bcb number block = Sealed

abbrev pub target_header : ℕ → Option Block → Option Header
target_header number block = if number == 0 then None else option_map header_of block

-- what the operation may cover (RFC 9173, sections 3.7 and 4.7.2)
unfoldable pub parts : Site → OpId → Parts
parts site op = record {
  target = target_by op.service op.target site.target;
  primary = site.primary;
  target_header = target_header op.target site.target;
  security_header = security_header site.security;
}

-- the suite's judgement: of the covered parts for integrity, and of the target's body besides for confidentiality
abbrev pub suite_judgement : Meaning → Site → OpId → Service → Option (List ℕ) → Asb → Judgement
suite_judgement suite site op Bib key asb = suite.judged asb.context key (parameters_of asb) (results_of asb op.target) (parts site op)
suite_judgement suite site op Bcb key asb = suite.checked asb.context key (parameters_of asb) (results_of asb op.target) (parts site op) (body_in site.target)

-- A scope lacks a bit of the least scope that the rule asks for.
abbrev pub is_narrow : Option ℕ → ℕ → Bool
is_narrow None scope = false
is_narrow (Some least) scope = not (bit_and least scope == least)

-- A judgement Right or Wrong isn't given where the scope is too narrow.
abbrev pub unless_narrow : Bool → Judgement → Judgement
unless_narrow narrow (Misset reason) = Misset reason
unless_narrow narrow Right = if narrow then Misset NarrowScope else Right
unless_narrow narrow Wrong = if narrow then Misset NarrowScope else Wrong

abbrev pub judge_by : Meaning → Option ℕ → Site → OpId → Option (List ℕ) → Option Asb → Judgement
judge_by suite least site op key None = Wrong
judge_by suite least site op key (Some asb) =
    unless_narrow (is_narrow least (suite.scope asb.context (parameters_of asb))) (suite_judgement suite site op op.service key asb)

-- the judgement of the operation with this key
unfoldable pub judge_over : Meaning → policies.Parts → Site → OpId → Option (List ℕ) → Judgement
judge_over suite policy site op key = judge_by suite (rule_over policy site op).least_scope site op key (asb_in site.security)

-- the target's body, opened with this key
abbrev pub open_by : Meaning → Site → OpId → Option (List ℕ) → Option Asb → List ℕ
open_by suite site op key None = body_in site.target
open_by suite site op key (Some asb) = suite.opened asb.context key (parameters_of asb) (results_of asb op.target) (parts site op) (body_in site.target)

unfoldable pub open_over : Meaning → Site → OpId → Option (List ℕ) → List ℕ
open_over suite site op key = open_by suite site op key (asb_in site.security)
