-- A suite with one more context for integrity keeps the laws of a suite, since the context and the rest of the suite keep theirs.
-- What the rest of the suite gives has a stroke.
use Rattle.std.specs.Prelude.{◌≡◌, ◌≤◌, ◌<◌, ◌⊎◌, ℕ, Bool, true, false, if◌then◌else◌, List, length, Option, Result, Ok, Err, refl}
use Rattle.std.proofs.Common.{inl, inr, arith}
use Rattle.bpsec_asb.specs.declared.asb.Pair.{Pair}
use Rattle.bpsec_context.specs.declared.judgement.Judgement.{Judgement}
use Rattle.bpsec_context.specs.declared.judgement.Judgement.TheVariants.{Right, Misset}
use Rattle.bpsec_context.specs.declared.judgement.MissetReason.{MissetReason}
use Rattle.bpsec_context.specs.declared.judgement.MissetReason.TheVariants.{OtherService, BadParameter, BadResult}
use Rattle.bpsec_context.specs.declared.service.ServiceOf.{ServiceOf}
use Rattle.bpsec_context.specs.declared.service.ServiceOf.TheVariants.{Integrity, Confidentiality, Unknown}
use Rattle.bpsec_context.specs.Calls.{Protected, IsContextReason, IsSuiteReason}

-- ---- what the suite gives: of the further context, or of the rest

abbrev pub service_with : Bool → ServiceOf → ServiceOf
service_with further service' = if further then Integrity else service'

abbrev pub joined_with : Bool → Bool → Bool
joined_with further joined' = if further then false else joined'

abbrev pub checked_with : Bool → Judgement → Judgement
checked_with further checked' = if further then Misset OtherService else checked'

abbrev pub opened_with : Bool → List ℕ → List ℕ → List ℕ
opened_with further opened' body = if further then body else opened'

abbrev pub sealed_with : Bool → Result Protected MissetReason → Result Protected MissetReason
sealed_with further sealed' = if further then Err OtherService else sealed'

-- ---- integrity

pub signed_is_right : (further : Bool) (signed signed' : Result (List ℕ) MissetReason) (judged judged' : Judgement) (tag : List ℕ)
    → (signed ≡ Ok tag → judged ≡ Right) → (signed' ≡ Ok tag → judged' ≡ Right)
    → (if further then signed else signed') ≡ Ok tag → (if further then judged else judged') ≡ Right
signed_is_right true signed signed' judged judged' tag law law' e = law e
signed_is_right false signed signed' judged judged' tag law law' e = law' e

pub signed_tags_are_short : (further : Bool) (signed signed' : Result (List ℕ) MissetReason) (tag : List ℕ)
    → (signed ≡ Ok tag → length tag ≤ 64) → (signed' ≡ Ok tag → length tag ≤ 64)
    → (if further then signed else signed') ≡ Ok tag → length tag ≤ 64
signed_tags_are_short true signed signed' tag law law' e = law e
signed_tags_are_short false signed signed' tag law law' e = law' e

pub unsigned_is_misset : (further : Bool) (signed signed' : Result (List ℕ) MissetReason) (judged judged' : Judgement) (reason : MissetReason)
    → (signed ≡ Err reason → (judged ≡ Misset reason) ⊎ (judged ≡ Misset BadResult))
    → (signed' ≡ Err reason → (judged' ≡ Misset reason) ⊎ (judged' ≡ Misset BadResult))
    → (if further then signed else signed') ≡ Err reason
    → ((if further then judged else judged') ≡ Misset reason) ⊎ ((if further then judged else judged') ≡ Misset BadResult)
unsigned_is_misset true signed signed' judged judged' reason law law' e = law e
unsigned_is_misset false signed signed' judged judged' reason law law' e = law' e

pub misset_is_unsigned : (further : Bool) (signed signed' : Result (List ℕ) MissetReason) (judged judged' : Judgement) (reason : MissetReason)
    → (judged ≡ Misset reason → (reason ≡ BadResult) ⊎ (signed ≡ Err reason))
    → (judged' ≡ Misset reason → (reason ≡ BadResult) ⊎ (signed' ≡ Err reason))
    → (if further then judged else judged') ≡ Misset reason
    → (reason ≡ BadResult) ⊎ ((if further then signed else signed') ≡ Err reason)
misset_is_unsigned true signed signed' judged judged' reason law law' e = law e
misset_is_unsigned false signed signed' judged judged' reason law law' e = law' e

pub bad_signing_parameters : (further : Bool) (signed signed' : Result (List ℕ) MissetReason) (judged judged' : Option (List ℕ) → List Pair → Judgement) (scope scope' : ℕ)
    → (signed ≡ Err BadParameter → ((key : Option (List ℕ)) (results : List Pair) → judged key results ≡ Misset BadParameter) × (scope ≡ 0))
    → (signed' ≡ Err BadParameter → ((key : Option (List ℕ)) (results : List Pair) → judged' key results ≡ Misset BadParameter) × (scope' ≡ 0))
    → (if further then signed else signed') ≡ Err BadParameter
    → ((key : Option (List ℕ)) (results : List Pair) → (if further then judged key results else judged' key results) ≡ Misset BadParameter)
    × ((if further then scope else scope') ≡ 0)
bad_signing_parameters true signed signed' judged judged' scope scope' law law' e = law e
bad_signing_parameters false signed signed' judged judged' scope scope' law law' e = law' e

pub judging_reasons : (further : Bool) (judged judged' : Judgement) (reason : MissetReason)
    → (judged ≡ Misset reason → IsContextReason reason) → (judged' ≡ Misset reason → IsSuiteReason reason)
    → (if further then judged else judged') ≡ Misset reason → IsSuiteReason reason
judging_reasons true judged judged' reason law law' e = inr (inr (law e))
judging_reasons false judged judged' reason law law' e = law' e

-- ---- confidentiality: the rest alone serves it

pub sealed_is_right : (further : Bool) (sealed' : Result Protected MissetReason) (checked' : Judgement) (opened' ciphertext plain : List ℕ) (made : Protected)
    → (sealed' ≡ Ok made → (checked' ≡ Right) × (opened' ≡ plain)) → sealed_with further sealed' ≡ Ok made
    → (checked_with further checked' ≡ Right) × (opened_with further opened' ciphertext ≡ plain)
sealed_is_right true sealed' checked' opened' ciphertext plain made law' e = absurd cc
sealed_is_right false sealed' checked' opened' ciphertext plain made law' e = law' e

pub joined_is_right : (further : Bool) (joined' : Bool) (sealed' : Result Protected MissetReason) (checked' : Judgement) (opened' body plain : List ℕ) (made : Protected)
    → (joined' ≡ true → sealed' ≡ Ok made → (checked' ≡ Right) × (opened' ≡ plain)) → joined_with further joined' ≡ true
    → sealed_with further sealed' ≡ Ok made → (checked_with further checked' ≡ Right) × (opened_with further opened' body ≡ plain)
joined_is_right true joined' sealed' checked' opened' body plain made law' is e = absurd cc
joined_is_right false joined' sealed' checked' opened' body plain made law' is e = law' is e

pub sealed_tags_are_short : (further : Bool) (sealed' : Result Protected MissetReason) (made : Protected)
    → (sealed' ≡ Ok made → length made.tag ≤ 64) → sealed_with further sealed' ≡ Ok made → length made.tag ≤ 64
sealed_tags_are_short true sealed' made law' e = absurd cc
sealed_tags_are_short false sealed' made law' e = law' e

pub stays : (further : Bool) (checked' : Judgement) (opened' body : List ℕ)
    → ((checked' ≡ Right → ⊥) → opened' ≡ body) → (checked_with further checked' ≡ Right → ⊥) → opened_with further opened' body ≡ body
stays true checked' opened' body law' not_right = refl
stays false checked' opened' body law' not_right = law' not_right

pub never_longer : (further : Bool) (opened' body : List ℕ)
    → length opened' ≤ length body → length (opened_with further opened' body) ≤ length body
never_longer true opened' body law' = omega arith
never_longer false opened' body law' = law'

pub unsealed_is_misset : (further : Bool) (sealed' : Result Protected MissetReason) (checked' : Judgement) (reason : MissetReason)
    → (sealed' ≡ Err reason → (checked' ≡ Misset reason) ⊎ (checked' ≡ Misset BadResult)) → sealed_with further sealed' ≡ Err reason
    → (checked_with further checked' ≡ Misset reason) ⊎ (checked_with further checked' ≡ Misset BadResult)
unsealed_is_misset true sealed' checked' reason law' e = inl cc
unsealed_is_misset false sealed' checked' reason law' e = law' e

pub misset_is_unsealed : (further : Bool) (sealed' : Result Protected MissetReason) (checked' : Judgement) (reason : MissetReason)
    → (checked' ≡ Misset reason → (reason ≡ BadResult) ⊎ (sealed' ≡ Err reason)) → checked_with further checked' ≡ Misset reason
    → (reason ≡ BadResult) ⊎ (sealed_with further sealed' ≡ Err reason)
misset_is_unsealed true sealed' checked' reason law' e = inr cc
misset_is_unsealed false sealed' checked' reason law' e = law' e

pub bad_sealing_parameters : (further : Bool) (sealed' : Result Protected MissetReason) (checked' : Option (List ℕ) → List Pair → List ℕ → Judgement) (scope scope' : ℕ)
    → (sealed' ≡ Err BadParameter → ((key : Option (List ℕ)) (results : List Pair) (body : List ℕ) → checked' key results body ≡ Misset BadParameter) × (scope' ≡ 0))
    → sealed_with further sealed' ≡ Err BadParameter
    → ((key : Option (List ℕ)) (results : List Pair) (body : List ℕ) → checked_with further (checked' key results body) ≡ Misset BadParameter)
    × ((if further then scope else scope') ≡ 0)
bad_sealing_parameters true sealed' checked' scope scope' law' e = absurd cc
bad_sealing_parameters false sealed' checked' scope scope' law' e = law' e

pub checking_reasons : (further : Bool) (checked' : Judgement) (reason : MissetReason)
    → (checked' ≡ Misset reason → IsSuiteReason reason) → checked_with further checked' ≡ Misset reason → IsSuiteReason reason
checking_reasons true checked' reason law' e = inr (inl cc)
checking_reasons false checked' reason law' e = law' e

-- ---- services

-- where the suite serves an id for nothing or for confidentiality, so does the rest, and the context is not the further one
pub of_the_rest : (further : Bool) (service' it : ServiceOf) → (Integrity ≡ it → ⊥) → service_with further service' ≡ it
    → (further ≡ false) × (service' ≡ it)
of_the_rest true service' it not_integrity e = absurd (not_integrity e)
of_the_rest false service' it not_integrity e = (refl, e)

pub not_unknown : Integrity ≡ Unknown → ⊥
not_unknown e = cc

pub not_confidentiality : Integrity ≡ Confidentiality → ⊥
not_confidentiality e = cc

-- then the suite gives what the rest gives
pub rest_at : {A : Type 0} (further : Bool) (it it' value : A) → further ≡ false → it' ≡ value → (if further then it else it') ≡ value
rest_at true it it' value none e = absurd cc
rest_at false it it' value none e = e

pub not_for_confidentiality : (further : Bool) (service' : ServiceOf) (checked' : Judgement)
    → (service' ≡ Integrity → checked' ≡ Misset OtherService) → service_with further service' ≡ Integrity
    → checked_with further checked' ≡ Misset OtherService
not_for_confidentiality true service' checked' law' e = refl
not_for_confidentiality false service' checked' law' e = law' e

pub not_for_sealing : (further : Bool) (service' : ServiceOf) (sealed' : Result Protected MissetReason)
    → (service' ≡ Integrity → sealed' ≡ Err OtherService) → service_with further service' ≡ Integrity
    → sealed_with further sealed' ≡ Err OtherService
not_for_sealing true service' sealed' law' e = refl
not_for_sealing false service' sealed' law' e = law' e

pub joins_for_confidentiality : (further : Bool) (service' : ServiceOf) (joined' : Bool)
    → (joined' ≡ true → service' ≡ Confidentiality) → joined_with further joined' ≡ true → service_with further service' ≡ Confidentiality
joins_for_confidentiality true service' joined' law' e = absurd cc
joins_for_confidentiality false service' joined' law' e = law' e

pub scopes_are_small : (further : Bool) (scope scope' : ℕ)
    → scope < 8 → scope' < 8 → (if further then scope else scope') < 8
scopes_are_small true scope scope' small small' = small
scopes_are_small false scope scope' small small' = small'
