-- Which reason a status report gives. Which event gives it is this project's own.
use Rattle.std.specs.Prelude.{ℕ, nat_le, Bool, true, false, if◌then◌else◌, List, find}
use Rattle.std.specs.Prelude.{Option, Some, None, is_some, unwrap_or, option_and_then}
use Rattle.bpsec_context.specs.declared.judgement.MissetReason.{MissetReason}
use Rattle.bpsec_context.specs.declared.judgement.MissetReason.TheVariants.{NoTarget, TargetForbidden}
use Rattle.bpsec_context.specs.declared.judgement.MissetReason.TheVariants.{UnknownContext, OtherService}
use Rattle.bpsec_context.specs.declared.judgement.MissetReason.TheVariants.{BadParameter, BadResult}
use Rattle.bpsec_context.specs.declared.judgement.MissetReason.TheVariants.{NoKey, KeyLength}
use Rattle.bpsec_context.specs.declared.judgement.MissetReason.TheVariants.{UnwrapRefused, NarrowScope}
use Rattle.bpsec_policy.specs.declared.rule.Action.{Action}
use Rattle.bpsec_policy.specs.declared.rule.Action.TheVariants.{Keep, Remove, Discard}
use Rattle.bpsec_node.specs.declared.event.Event.{Event}
use Rattle.bpsec_node.specs.declared.event.Verdict.{Verdict}
use Rattle.bpsec_node.specs.declared.event.Verdict.TheVariants.{NotOurs, Blocked, Passed, Failed}
use Rattle.bpsec_node.specs.declared.event.Verdict.TheVariants.{Misset, Conflict, Missing, Broken}
use Rattle.bp_report.specs.declared.reason.ReasonCode.{ReasonCode}
use Rattle.bp_report.specs.declared.reason.ReasonCode.TheVariants as codes

-- The registry of reason codes: RFC 9171, section 9.5, for 0, and RFC 9172, sections 7.1 and 11.2.
abbrev pub code_number : ReasonCode → ℕ
code_number codes.NoAdditionalInformation = 0
code_number codes.MissingSecurityOperation = 12
code_number codes.UnknownSecurityOperation = 13
code_number codes.UnexpectedSecurityOperation = 14
code_number codes.FailedSecurityOperation = 15
code_number codes.ConflictingSecurityOperation = 16

-- the code of an operation that can't be judged
abbrev pub misset_code : MissetReason → ReasonCode
misset_code NoTarget = codes.UnexpectedSecurityOperation
misset_code TargetForbidden = codes.UnexpectedSecurityOperation
misset_code UnknownContext = codes.UnknownSecurityOperation
misset_code OtherService = codes.UnexpectedSecurityOperation
misset_code BadParameter = codes.FailedSecurityOperation
misset_code BadResult = codes.FailedSecurityOperation
misset_code NoKey = codes.FailedSecurityOperation
misset_code KeyLength = codes.FailedSecurityOperation
misset_code UnwrapRefused = codes.FailedSecurityOperation
misset_code NarrowScope = codes.FailedSecurityOperation

-- the code of a verdict; where nothing is wrong with an operation, or nothing is known of it, there is none
abbrev pub verdict_code : Verdict → Option ReasonCode
verdict_code NotOurs = None
verdict_code Blocked = None
verdict_code Passed = None
verdict_code Failed = Some codes.FailedSecurityOperation
verdict_code (Misset reason) = Some (misset_code reason)
verdict_code Conflict = Some codes.ConflictingSecurityOperation
verdict_code Missing = Some codes.MissingSecurityOperation
verdict_code (Broken reason) = Some codes.UnknownSecurityOperation

-- the action discards the bundle, or removes its primary block (0) or its payload block (1)
abbrev pub is_fatal : Action → ℕ → Bool
is_fatal Keep target = false
is_fatal Remove target = nat_le target 1
is_fatal Discard target = true

-- Of a bundle that is discarded those events decide whose action is fatal, of another one all that have a code.
abbrev pub decides : Bool → Event → Bool
decides discarded event =
    if discarded then is_fatal event.action event.target else is_some (verdict_code event.verdict)

-- the code of the first event that decides
unfoldable pub reason_of : List Event → Bool → ReasonCode
reason_of events discarded =
    unwrap_or
    (option_and_then (λ event. verdict_code event.verdict) (find (decides discarded) events))
    codes.NoAdditionalInformation
