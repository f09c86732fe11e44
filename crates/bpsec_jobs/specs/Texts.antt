-- A text above the limit of texts is too long, of whatever kind it is.
use Rattle.std.specs.Prelude.{◌≡◌, ℕ, ◌<◌, List, length, None, Result, Err}
use Rattle.std.proofs.Common.{cond, true, nat_lt, ap, arith, refl}
use Rattle.std.proofs.lemmas.Bool.{lt-ltb}
use Rattle.bp_text.specs.declared.fault.TextReason.TheVariants.{TooLong}
use Rattle.bp_text.specs.declared.fault.TextFault.{TextFault}
use Rattle.bp_text.specs.Fault.{top}
use Rattle.bp_text.specs.Tree.{tree_of}
use Rattle.bp_bundle.specs.Shape.{Contents}
use Rattle.bp_build.specs.BuildText.{build_of}
use Rattle.bpsec_policy.specs.Rules.{Parts}
use Rattle.bpsec_policy.specs.PolicyText.{policy_of}
use Rattle.bpsec_policy.specs.RingText.{ring_of}
use Rattle.bpsec_plan.specs.PlanText.{plan_of}

abbrev pub too_long : TextFault
too_long = record { entry = None; reason = TooLong }

long_trees : (bytes : List ℕ) → 1048576 < length bytes → tree_of bytes ≡ Err TooLong
unfolding tree_of
long_trees bytes long = rw (lt-ltb 1048576 (length bytes) long) refl

pub long_builds : (bytes : List ℕ) → 1048576 < length bytes → build_of bytes ≡ Err too_long
long_builds bytes long = rw (long_trees bytes long) refl

pub long_policies : (bytes : List ℕ) → 1048576 < length bytes → policy_of bytes ≡ Err too_long
long_policies bytes long = rw (long_trees bytes long) refl

pub long_plans : (bytes : List ℕ) → 1048576 < length bytes → plan_of bytes ≡ Err too_long
long_plans bytes long = rw (long_trees bytes long) refl

pub long_rings : (bytes : List ℕ) → 1048576 < length bytes → ring_of bytes ≡ Err too_long
long_rings bytes long = rw (long_trees bytes long) refl
