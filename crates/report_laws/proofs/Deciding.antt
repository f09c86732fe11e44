-- Where a node discards a bundle, an event decides, and it has a code.
use Rattle.std.proofs.Common.{◌≡◌, ◌≢◌, ℕ, Bool, true, false, cond, ◌||◌, ◌&&◌, ◌==◌, List, [], ◌∷◌, map, Option, Some, None, is_some, unwrap_or, find, ◌⊎◌, inl, inr, not, refl}
use Rattle.std.proofs.lemmas.Bool.{or_cases, or_left, or_right, and_parts, eqb-true}
use Rattle.std.specs.Option.{option_and_then}
use Rattle.std.specs.List.{list_any}
use Rattle.cbor_profile.specs.declared.fault.Fault.{Fault}
use Rattle.bp_bundle.specs.Shape.{Contents}
use Rattle.bpsec_context.specs.declared.judgement.MissetReason.{MissetReason}
use Rattle.bpsec_context.specs.declared.judgement.MissetReason.TheVariants.{NoTarget, TargetForbidden, UnknownContext, OtherService, BadParameter, BadResult, NoKey, KeyLength, UnwrapRefused, NarrowScope}
use Rattle.bpsec_policy.specs.declared.rule.Action.{Action}
use Rattle.bpsec_policy.specs.declared.rule.Action.TheVariants.{Keep, Remove, Discard}
use Rattle.bpsec_policy.specs.declared.rule.Rule.{Rule}
use Rattle.bpsec_node.specs.declared.event.Event.{Event}
use Rattle.bpsec_node.specs.declared.event.Verdict.{Verdict}
use Rattle.bpsec_node.specs.declared.event.Verdict.TheVariants.{NotOurs, Blocked, Passed, Failed, Misset, Conflict, Missing, Broken}
use Rattle.bpsec_node.specs.Situation.{Situation, is_among}
use Rattle.bpsec_node.specs.Verdict.{rule, role, verdict}
use Rattle.bpsec_node.specs.AllOperations.{all_operations}
use Rattle.bpsec_node.specs.Events.{action_by, op_at, missing_event, is_floored, operation_event, broken_event, reason_by, event_at, places, events}
use Rattle.bpsec_node.specs.Outcome.{is_remove, is_discard, lacks_target, removes, is_removed, is_discarded, outcome}
use Rattle.bp_report.specs.declared.reason.ReasonCode.{ReasonCode}
use Rattle.bp_report.specs.declared.reason.ReasonCode.TheVariants.{NoAdditionalInformation}
use Rattle.bp_report.specs.Reason.{misset_code, verdict_code, is_fatal, decides, reason_of}

-- ---- what may decide has a code

-- an event whose action is fatal gives a reason
abbrev Gives : Event → Type 0
Gives event = is_fatal event.action event.target ≡ true
    → unwrap_or (verdict_code event.verdict) NoAdditionalInformation ≢ NoAdditionalInformation

misset_gives : (reason : MissetReason) → misset_code reason ≢ NoAdditionalInformation
misset_gives NoTarget = λ e. cc
misset_gives TargetForbidden = λ e. cc
misset_gives UnknownContext = λ e. cc
misset_gives OtherService = λ e. cc
misset_gives BadParameter = λ e. cc
misset_gives BadResult = λ e. cc
misset_gives NoKey = λ e. cc
misset_gives KeyLength = λ e. cc
misset_gives UnwrapRefused = λ e. cc
misset_gives NarrowScope = λ e. cc

acted : (rule : Rule) (floored : Bool) (target : ℕ) (verdict : Verdict)
    → is_fatal (action_by rule floored target verdict) target ≡ true
    → unwrap_or (verdict_code verdict) NoAdditionalInformation ≢ NoAdditionalInformation
acted rule floored target NotOurs fatal = absurd (cc)
acted rule floored target Blocked fatal = absurd (cc)
acted rule floored target Passed fatal = absurd (cc)
acted rule floored target Failed fatal = λ e. cc
acted rule floored target (Misset reason) fatal = misset_gives reason
acted rule floored target Conflict fatal = λ e. cc
acted rule floored target Missing fatal = λ e. cc
acted rule floored target (Broken reason) fatal = λ e. cc

broken_gives : (fault : Option Fault)
    → unwrap_or (verdict_code (reason_by fault)) NoAdditionalInformation ≢ NoAdditionalInformation
broken_gives None = λ e. cc
broken_gives (Some fault) = λ e. cc

either : (b : Bool) (x y : Event) → Gives x → Gives y → Gives (cond b x y)
either true x y one other = one
either false x y one other = other

-- ---- the first of these gives the reason

first : (event : Event) (events : List Event) (b : Bool) → is_fatal event.action event.target ≡ b → Gives event
    → (list_any (decides true) events ≡ true → reason_of events true ≢ NoAdditionalInformation)
    → (b || list_any (decides true) events) ≡ true
    → unwrap_or (option_and_then (λ event. verdict_code event.verdict) (cond b (Some event) (find (decides true) events)))
    NoAdditionalInformation ≢ NoAdditionalInformation
unfolding reason_of
first event events true fatal one more any = one fatal
first event events false fatal one more any = more any

reasoned : {A : Type 0} (event_of : A → Event) → ((x : A) → Gives (event_of x)) → (xs : List A)
    → list_any (decides true) (map event_of xs) ≡ true
    → reason_of (map event_of xs) true ≢ NoAdditionalInformation
unfolding reason_of
reasoned event_of gives [] any = absurd (cc)
reasoned event_of gives (x ∷ xs) any =
    first (event_of x) (map event_of xs) (is_fatal (event_of x).action (event_of x).target) refl (gives x)
    (reasoned event_of gives xs) any

-- ---- a discarded bundle has such an event

any_weaker : {A : Type 0} (p q : A → Bool) → ((x : A) → p x ≡ true → q x ≡ true) → (xs : List A)
    → list_any p xs ≡ true → list_any q xs ≡ true
any_weaker p q so [] any = absurd (cc)
any_weaker p q so (x ∷ xs) any =
    elim (or_cases (p x) (list_any p xs) any) [
      | inl one ↦ or_left (q x) (list_any q xs) (so x one)
      | inr more ↦ or_right (q x) (list_any q xs) (any_weaker p q so xs more)
    ]

discards : (action : Action) (target : ℕ) → is_discard action ≡ true → is_fatal action target ≡ true
discards Keep target is = absurd (cc)
discards Remove target is = absurd (cc)
discards Discard target is = refl

removes_it : (action : Action) (target number : ℕ) → is_fatal Remove number ≡ true → is_remove action ≡ true
    → (target == number) ≡ true → is_fatal action target ≡ true
removes_it Keep target number fatal is same = absurd (cc)
removes_it Remove target number fatal is same = rw (eqb-true target number same) fatal
removes_it Discard target number fatal is same = refl

removed_decides : (number : ℕ) → is_fatal Remove number ≡ true → (events : List Event)
    → is_removed events number ≡ true → list_any (decides true) events ≡ true
unfolding is_removed
removed_decides number fatal events is =
    any_weaker (λ event. removes event && event.target == number) (decides true)
    (λ event both.
    let parts = and_parts (removes event) (event.target == number) both in
    let removed = and_parts (is_remove event.action) (not (lacks_target event.verdict)) parts.0 in
    removes_it event.action event.target number fatal removed.0 parts.1)
    events is

discarded_decides : (events : List Event) → is_discarded events ≡ true → list_any (decides true) events ≡ true
unfolding is_discarded
discarded_decides events is =
    elim (or_cases (list_any (λ event. is_discard event.action) events) (is_removed events 0 || is_removed events 1) is) [
      | inl one ↦
          any_weaker (λ event. is_discard event.action) (decides true) (λ event. discards event.action event.target) events one
      | inr removed ↦
          elim (or_cases (is_removed events 0) (is_removed events 1) removed) [
            | inl one ↦ removed_decides 0 refl events one
            | inr one ↦ removed_decides 1 refl events one
          ]
    ]

gone : (b : Bool) (bundle : Contents) → cond b None (Some bundle) ≡ None → b ≡ true
gone true bundle none = refl
gone false bundle none = absurd (cc)

events_reasoned : (s : Situation) → list_any (decides true) (events s) ≡ true
    → reason_of (events s) true ≢ NoAdditionalInformation
unfolding events event_at missing_event operation_event broken_event
events_reasoned s any =
    reasoned (event_at s)
    (λ place. either (place.block == 0) _ _ (λ fatal e. cc)
    (either (is_among (all_operations s) (op_at place)) _ _
    (λ fatal. acted (rule s (op_at place)) (is_floored (role s (op_at place)) (op_at place).service)
    (op_at place).target (verdict s (op_at place)) fatal)
    (λ fatal. broken_gives _)))
    (places s) any

pub discarded_reasoned : (s : Situation) → (outcome s).bundle ≡ None
    → reason_of (outcome s).events true ≢ NoAdditionalInformation
unfolding outcome
discarded_reasoned s none = events_reasoned s (discarded_decides _ (gone _ _ none))
