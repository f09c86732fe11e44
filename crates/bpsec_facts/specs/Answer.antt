-- What is answered to a plan: a bundle, or the first reason against it.
use Rattle.std.specs.Prelude.{◌≡◌, nat_lt, if◌then◌else◌, length, Option, Some, None, Result, Ok, Err}
use Rattle.cbor_profile.specs.declared.TheConstants.{BUNDLE_LIMIT}
use Rattle.bp_bundle.specs.Shape.{Contents}
use Rattle.bp_bundle.specs.Spelling.{spelling}
use Rattle.bp_bundle.specs.declared.shape.ShapeFault.TheVariants as faults
use Rattle.bp_bundle.specs.Faults.{shape_fault}
use Rattle.bpsec_facts.specs.declared.reason.PlanReason.TheVariants.{TooLong}
use Rattle.bpsec_facts.specs.declared.reason.Refusal.{Refusal}
use Rattle.bpsec_facts.specs.declared.reason.PlanFault.{PlanFault}
use Rattle.bpsec_facts.specs.declared.reason.PlanFault.TheVariants.{Refused, NoMemory}
use Rattle.bpsec_facts.specs.Refusal.{nowhere}

-- TooLong: the secured bundle would have more bytes than the bundle limit.
abbrev pub long_refusal : Contents → Option Refusal
long_refusal bundle = if nat_lt BUNDLE_LIMIT (length (spelling bundle)) then Some (nowhere TooLong) else None

abbrev pub or_next : Option Refusal → Option Refusal → Option Refusal
or_next None next = next
or_next (Some refusal) next = Some refusal

-- The fault is that refusal, or memory ran out.
abbrev pub IsFaultOf : PlanFault → Option Refusal → Type 0
IsFaultOf (Refused reason at) refusal = refusal ≡ Some (record { reason = reason; at = at })
IsFaultOf NoMemory refusal = Unit {0}

-- ---- on the way

-- the bundle, or the refusal
abbrev pub Answers : Result Contents Refusal → Option Refusal → Contents → Type 0
Answers (Ok bundle) refusal secured = (refusal ≡ None) × (bundle ≡ secured)
Answers (Err found) refusal secured = refusal ≡ Some found

-- it has no other fault of shape than that it is too long
abbrev pub HasShape : Contents → Type 0
HasShape bundle = shape_fault bundle ≡ (if nat_lt BUNDLE_LIMIT (length (spelling bundle)) then Some faults.TooLong else None)
