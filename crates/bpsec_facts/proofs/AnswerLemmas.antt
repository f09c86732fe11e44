-- A bundle that is too long is refused.
use Rattle.std.proofs.Common.{◌≡◌, true, length, refl}
use Rattle.std.specs.Prelude.{Some, nat_lt}
use Rattle.cbor_profile.specs.declared.TheConstants.{BUNDLE_LIMIT}
use Rattle.bp_bundle.specs.Shape.{Contents}
use Rattle.bp_bundle.specs.Spelling.{spelling}
use Rattle.bpsec_facts.specs.declared.reason.PlanReason.TheVariants.{TooLong}
use Rattle.bpsec_facts.specs.Refusal.{nowhere}
use Rattle.bpsec_facts.specs.Answer.{long_refusal}

-- one with a length above the limit is refused
pub long_refused : (bundle : Contents) → nat_lt BUNDLE_LIMIT (length (spelling bundle)) ≡ true → long_refusal bundle ≡ Some (nowhere TooLong)
long_refused bundle long = rw long refl
