-- The contexts of RFC 9173 judge nothing Right without a key.
use Rattle.std.proofs.Common.{◌≢◌, ℕ, Bool, true, false, not, List, [], ◌∷◌, None, bytes_eq}
use Rattle.bpsec_asb.specs.declared.asb.Pair.{Pair}
use Rattle.bpsec_scope.specs.Parts.{Parts}
use Rattle.bpsec_context.specs.declared.judgement.Judgement.{Judgement}
use Rattle.bpsec_context.specs.declared.judgement.Judgement.TheVariants.{Right, Misset}
use Rattle.bpsec_context.specs.declared.judgement.MissetReason.{MissetReason}
use Rattle.bpsec_context.specs.declared.service.ServiceOf.{ServiceOf}
use Rattle.bpsec_context.specs.declared.service.ServiceOf.TheVariants.{Integrity, Confidentiality, Unknown}
use Rattle.bpsec_context.specs.declared.judgement.MissetReason.TheVariants.{BadParameter, BadResult, NoKey}
use Rattle.bpsec_context.specs.Pairs.{is_given, value_or}
use Rattle.bpsec_context.specs.Reasons.{Table, first, judgement}
use Rattle.bpsec_context.specs.Services.{by_service}
use Rattle.bpsec_context.specs.Integrity as integrity
use Rattle.bpsec_context.specs.Confidentiality as confidentiality

-- a third reason that holds stands in the way
third : (one other : Bool) (a b c : MissetReason) (more : Table) (right : Bool) → judgement (first ((one, a) ∷ (other, b) ∷ (true, c) ∷ more)) right ≢ Right
third true other a b c more right e = absurd cc
third false true a b c more right e = absurd cc
third false false a b c more right e = absurd cc

pub integrity_needs_key : (parameters results : List Pair) (parts : Parts) → integrity.judged None parameters results parts ≢ Right
unfolding integrity.judged
integrity_needs_key parameters results parts =
    third (integrity.bad_parameters parameters) (not (is_given (integrity.result_given parameters results))) BadParameter BadResult NoKey
    (integrity.key_refusals (integrity.wrapped_of parameters) [])
    (bytes_eq (value_or [] (integrity.result_given parameters results)) (integrity.code_of [] parameters parts))

pub cipher_needs_key : (parameters results : List Pair) (parts : Parts) (body : List ℕ) → confidentiality.checked None parameters results parts body ≢ Right
unfolding confidentiality.checked
cipher_needs_key parameters results parts body =
    third (confidentiality.bad_parameters parameters) (confidentiality.lacks_tag (confidentiality.result_given results) body) BadParameter BadResult NoKey
    (confidentiality.key_refusals (confidentiality.variant_of parameters) (confidentiality.wrapped_of parameters) [])
    (bytes_eq (confidentiality.tag_in (confidentiality.result_given results) body) (confidentiality.tag_over [] parameters parts (confidentiality.ciphertext_in (confidentiality.result_given results) body)))

pub served_integrity : (service : ServiceOf) (judged : Judgement) (a b : MissetReason) → judged ≢ Right → by_service service judged (Misset a) (Misset b) ≢ Right
served_integrity Integrity judged a b not = not
served_integrity Confidentiality judged a b not = λ e. absurd cc
served_integrity Unknown judged a b not = λ e. absurd cc

pub served_cipher : (service : ServiceOf) (checked : Judgement) (a b : MissetReason) → checked ≢ Right → by_service service (Misset a) checked (Misset b) ≢ Right
served_cipher Integrity checked a b not = λ e. absurd cc
served_cipher Confidentiality checked a b not = not
served_cipher Unknown checked a b not = λ e. absurd cc
