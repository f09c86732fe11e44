-- What the types of a policy's parts say of them.
use Rattle.std.specs.Prelude.{ℕ, ◌^◌, ◌<◌, IfSome, FitsSigned}
use Rattle.std.specs.Int.{w64}
use Rattle.std.specs.List.{AllByRecursion}
use Rattle.bp_eid.specs.EndpointId.{Fits}
use Rattle.bpsec_policy.specs.declared.rule.TargetKind.{TargetKind}
use Rattle.bpsec_policy.specs.declared.rule.TargetKind.TheVariants.{Primary, Kind}
use Rattle.bpsec_policy.specs.declared.rule.Patterns.{Patterns}
use Rattle.bpsec_policy.specs.declared.rule.Requirement.{Requirement}
use Rattle.bpsec_policy.specs.Rules.{Parts}

-- a number of 64 bits
abbrev pub TargetFits : TargetKind → Type 0
TargetFits Primary = Unit {0}
TargetFits (Kind n) = n < 2 ^ 64

-- ids that keep their rules, and a context and targets of 64 bits
pub record PatternsFit (p : Patterns) : Type 0 where
  pub source : IfSome p.source Fits
  pub source_node : IfSome p.source_node Fits
  pub context : IfSome p.context (λ z. FitsSigned w64 z)
  pub targets : IfSome p.targets (AllByRecursion TargetFits)

pub record RequirementFits (r : Requirement) : Type 0 where
  pub from : IfSome r.from Fits
  pub target : TargetFits r.target

pub record PartsFit (p : Parts) : Type 0 where
  pub node : Fits p.node
  pub rules : AllByRecursion (λ r. PatternsFit r.patterns) p.rules
  pub required : AllByRecursion RequirementFits p.required
