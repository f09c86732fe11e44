-- A suite of two contexts keeps the laws of a suite, since the contexts keep theirs.
use Rattle.std.specs.Prelude.{◌≡◌, ◌≤◌, ◌<◌, ◌⊎◌, ℕ, Bool, true, false, List, length, Option, Result, Ok, Err, refl}
use Rattle.std.proofs.Common.{inl, inr, arith}
use Rattle.bpsec_asb.specs.declared.asb.Pair.{Pair}
use Rattle.bpsec_context.specs.declared.judgement.Judgement.{Judgement}
use Rattle.bpsec_context.specs.declared.judgement.Judgement.TheVariants.{Right, Misset}
use Rattle.bpsec_context.specs.declared.judgement.MissetReason.{MissetReason}
use Rattle.bpsec_context.specs.declared.judgement.MissetReason.TheVariants.{UnknownContext, OtherService, BadParameter, BadResult}
use Rattle.bpsec_context.specs.declared.service.ServiceOf.{ServiceOf}
use Rattle.bpsec_context.specs.declared.service.ServiceOf.TheVariants.{Integrity, Confidentiality, Unknown}
use Rattle.bpsec_context.specs.Calls.{Protected, IsContextReason, IsSuiteReason}
use Rattle.bpsec_context.specs.Services.{by_service}

-- ---- answers of a suite, from those of its contexts

abbrev pub suite_judged : ServiceOf → Judgement → Judgement
suite_judged service judged = by_service service judged (Misset OtherService) (Misset UnknownContext)

abbrev pub suite_signed : ServiceOf → Result (List ℕ) MissetReason → Result (List ℕ) MissetReason
suite_signed service signed = by_service service signed (Err OtherService) (Err UnknownContext)

abbrev pub suite_checked : ServiceOf → Judgement → Judgement
suite_checked service checked = by_service service (Misset OtherService) checked (Misset UnknownContext)

abbrev pub suite_opened : ServiceOf → List ℕ → List ℕ → List ℕ
suite_opened service opened body = by_service service body opened body

abbrev pub suite_sealed : ServiceOf → Result Protected MissetReason → Result Protected MissetReason
suite_sealed service sealed = by_service service (Err OtherService) sealed (Err UnknownContext)

-- ---- integrity

pub signed_is_right : (service : ServiceOf) (signed : Result (List ℕ) MissetReason) (judged : Judgement) (tag : List ℕ) → (signed ≡ Ok tag → judged ≡ Right) → suite_signed service signed ≡ Ok tag → suite_judged service judged ≡ Right
signed_is_right Integrity signed judged tag law e = law e
signed_is_right Confidentiality signed judged tag law e = absurd cc
signed_is_right Unknown signed judged tag law e = absurd cc

pub signed_tags_are_short : (service : ServiceOf) (signed : Result (List ℕ) MissetReason) (tag : List ℕ) → (signed ≡ Ok tag → length tag ≤ 64) → suite_signed service signed ≡ Ok tag → length tag ≤ 64
signed_tags_are_short Integrity signed tag law e = law e
signed_tags_are_short Confidentiality signed tag law e = absurd cc
signed_tags_are_short Unknown signed tag law e = absurd cc

pub unsigned_is_misset : (service : ServiceOf) (signed : Result (List ℕ) MissetReason) (judged : Judgement) (reason : MissetReason) → (signed ≡ Err reason → (judged ≡ Misset reason) ⊎ (judged ≡ Misset BadResult)) → suite_signed service signed ≡ Err reason → (suite_judged service judged ≡ Misset reason) ⊎ (suite_judged service judged ≡ Misset BadResult)
unsigned_is_misset Integrity signed judged reason law e = law e
unsigned_is_misset Confidentiality signed judged reason law e = inl cc
unsigned_is_misset Unknown signed judged reason law e = inl cc

pub misset_is_unsigned : (service : ServiceOf) (signed : Result (List ℕ) MissetReason) (judged : Judgement) (reason : MissetReason) → (judged ≡ Misset reason → (reason ≡ BadResult) ⊎ (signed ≡ Err reason)) → suite_judged service judged ≡ Misset reason → (reason ≡ BadResult) ⊎ (suite_signed service signed ≡ Err reason)
misset_is_unsigned Integrity signed judged reason law e = law e
misset_is_unsigned Confidentiality signed judged reason law e = inr cc
misset_is_unsigned Unknown signed judged reason law e = inr cc

pub bad_signing_parameters : (service : ServiceOf) (signed : Result (List ℕ) MissetReason) (judged : Option (List ℕ) → List Pair → Judgement) (scope other_scope : ℕ) → (signed ≡ Err BadParameter → ((key : Option (List ℕ)) (results : List Pair) → judged key results ≡ Misset BadParameter) × (scope ≡ 0)) → suite_signed service signed ≡ Err BadParameter → ((key : Option (List ℕ)) (results : List Pair) → suite_judged service (judged key results) ≡ Misset BadParameter) × (by_service service scope other_scope 0 ≡ 0)
bad_signing_parameters Integrity signed judged scope other_scope law e = law e
bad_signing_parameters Confidentiality signed judged scope other_scope law e = absurd cc
bad_signing_parameters Unknown signed judged scope other_scope law e = absurd cc

pub judging_reasons : (service : ServiceOf) (judged : Judgement) (reason : MissetReason) → (judged ≡ Misset reason → IsContextReason reason) → suite_judged service judged ≡ Misset reason → IsSuiteReason reason
judging_reasons Integrity judged reason law e = inr (inr (law e))
judging_reasons Confidentiality judged reason law e = inr (inl cc)
judging_reasons Unknown judged reason law e = inl cc

-- ---- confidentiality

pub sealed_is_right : (service : ServiceOf) (sealed : Result Protected MissetReason) (checked : Judgement) (opened ciphertext plain : List ℕ) (made : Protected) → (sealed ≡ Ok made → (checked ≡ Right) × (opened ≡ plain)) → suite_sealed service sealed ≡ Ok made → (suite_checked service checked ≡ Right) × (suite_opened service opened ciphertext ≡ plain)
sealed_is_right Integrity sealed checked opened ciphertext plain made law e = absurd cc
sealed_is_right Confidentiality sealed checked opened ciphertext plain made law e = law e
sealed_is_right Unknown sealed checked opened ciphertext plain made law e = absurd cc

pub joined_is_right : (service : ServiceOf) (joins : Bool) (sealed : Result Protected MissetReason) (checked : Judgement) (opened body plain : List ℕ) (made : Protected) → (joins ≡ true → sealed ≡ Ok made → (checked ≡ Right) × (opened ≡ plain)) → by_service service false joins false ≡ true → suite_sealed service sealed ≡ Ok made → (suite_checked service checked ≡ Right) × (suite_opened service opened body ≡ plain)
joined_is_right Integrity joins sealed checked opened body plain made law is e = absurd cc
joined_is_right Confidentiality joins sealed checked opened body plain made law is e = law is e
joined_is_right Unknown joins sealed checked opened body plain made law is e = absurd cc

pub sealed_tags_are_short : (service : ServiceOf) (sealed : Result Protected MissetReason) (made : Protected) → (sealed ≡ Ok made → length made.tag ≤ 64) → suite_sealed service sealed ≡ Ok made → length made.tag ≤ 64
sealed_tags_are_short Integrity sealed made law e = absurd cc
sealed_tags_are_short Confidentiality sealed made law e = law e
sealed_tags_are_short Unknown sealed made law e = absurd cc

pub stays : (service : ServiceOf) (checked : Judgement) (opened body : List ℕ) → ((checked ≡ Right → ⊥) → opened ≡ body) → (suite_checked service checked ≡ Right → ⊥) → suite_opened service opened body ≡ body
stays Integrity checked opened body law not_right = refl
stays Confidentiality checked opened body law not_right = law not_right
stays Unknown checked opened body law not_right = refl

pub never_longer : (service : ServiceOf) (opened body : List ℕ) → length opened ≤ length body → length (suite_opened service opened body) ≤ length body
never_longer Integrity opened body law = omega arith
never_longer Confidentiality opened body law = law
never_longer Unknown opened body law = omega arith

pub unsealed_is_misset : (service : ServiceOf) (sealed : Result Protected MissetReason) (checked : Judgement) (reason : MissetReason) → (sealed ≡ Err reason → (checked ≡ Misset reason) ⊎ (checked ≡ Misset BadResult)) → suite_sealed service sealed ≡ Err reason → (suite_checked service checked ≡ Misset reason) ⊎ (suite_checked service checked ≡ Misset BadResult)
unsealed_is_misset Integrity sealed checked reason law e = inl cc
unsealed_is_misset Confidentiality sealed checked reason law e = law e
unsealed_is_misset Unknown sealed checked reason law e = inl cc

pub misset_is_unsealed : (service : ServiceOf) (sealed : Result Protected MissetReason) (checked : Judgement) (reason : MissetReason) → (checked ≡ Misset reason → (reason ≡ BadResult) ⊎ (sealed ≡ Err reason)) → suite_checked service checked ≡ Misset reason → (reason ≡ BadResult) ⊎ (suite_sealed service sealed ≡ Err reason)
misset_is_unsealed Integrity sealed checked reason law e = inr cc
misset_is_unsealed Confidentiality sealed checked reason law e = law e
misset_is_unsealed Unknown sealed checked reason law e = inr cc

pub bad_sealing_parameters : (service : ServiceOf) (sealed : Result Protected MissetReason) (checked : Option (List ℕ) → List Pair → List ℕ → Judgement) (other_scope scope : ℕ) → (sealed ≡ Err BadParameter → ((key : Option (List ℕ)) (results : List Pair) (body : List ℕ) → checked key results body ≡ Misset BadParameter) × (scope ≡ 0)) → suite_sealed service sealed ≡ Err BadParameter → ((key : Option (List ℕ)) (results : List Pair) (body : List ℕ) → suite_checked service (checked key results body) ≡ Misset BadParameter) × (by_service service other_scope scope 0 ≡ 0)
bad_sealing_parameters Integrity sealed checked other_scope scope law e = absurd cc
bad_sealing_parameters Confidentiality sealed checked other_scope scope law e = law e
bad_sealing_parameters Unknown sealed checked other_scope scope law e = absurd cc

pub checking_reasons : (service : ServiceOf) (checked : Judgement) (reason : MissetReason) → (checked ≡ Misset reason → IsContextReason reason) → suite_checked service checked ≡ Misset reason → IsSuiteReason reason
checking_reasons Integrity checked reason law e = inr (inl cc)
checking_reasons Confidentiality checked reason law e = inr (inr (law e))
checking_reasons Unknown checked reason law e = inl cc

-- ---- services

pub at_service : {A : Type 0} (service it : ServiceOf) (integrity confidentiality unknown : A) → service ≡ it → by_service service integrity confidentiality unknown ≡ by_service it integrity confidentiality unknown
at_service service it integrity confidentiality unknown e = rw e refl

pub judged_at : (service it : ServiceOf) (judged : Judgement) → service ≡ it → suite_judged service judged ≡ suite_judged it judged
judged_at service it judged e = at_service service it judged (Misset OtherService) (Misset UnknownContext) e

pub signed_at : (service it : ServiceOf) (signed : Result (List ℕ) MissetReason) → service ≡ it → suite_signed service signed ≡ suite_signed it signed
signed_at service it signed e = at_service service it signed (Err OtherService) (Err UnknownContext) e

pub checked_at : (service it : ServiceOf) (checked : Judgement) → service ≡ it → suite_checked service checked ≡ suite_checked it checked
checked_at service it checked e = at_service service it (Misset OtherService) checked (Misset UnknownContext) e

pub sealed_at : (service it : ServiceOf) (sealed : Result Protected MissetReason) → service ≡ it → suite_sealed service sealed ≡ suite_sealed it sealed
sealed_at service it sealed e = at_service service it (Err OtherService) sealed (Err UnknownContext) e

pub joins_for_confidentiality : (service : ServiceOf) (joins : Bool) → by_service service false joins false ≡ true → service ≡ Confidentiality
joins_for_confidentiality Integrity joins e = absurd cc
joins_for_confidentiality Confidentiality joins e = refl
joins_for_confidentiality Unknown joins e = absurd cc

pub scopes_are_small : (service : ServiceOf) (integrity confidentiality : ℕ) → integrity < 8 → confidentiality < 8 → by_service service integrity confidentiality 0 < 8
scopes_are_small Integrity integrity confidentiality small small' = small
scopes_are_small Confidentiality integrity confidentiality small small' = small'
scopes_are_small Unknown integrity confidentiality small small' = omega arith
