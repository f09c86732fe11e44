-- Context 1 keeps the laws of an integrity context.
use Rattle.std.specs.Prelude.{◌≡◌, ◌<◌, ◌≤◌, ◌⊎◌, ℕ, ◌%◌, Bool, true, false, not, List, [], length, Option, Some, Ok, Err, refl, if◌then◌else◌}
use Rattle.std.proofs.Common.{sym, ap, ◌∙◌, arith}
use Rattle.std.proofs.lemmas.Slice.Eq.{bytes_eq-Decides}
use Rattle.sha2.proofs.Facts256.{length-sha256}
use Rattle.sha2.proofs.Facts512.{length-sha384, length-sha512}
use Rattle.hmac_core.specs.Hmac.{hmac, code_under}
use Rattle.bpsec_asb.specs.declared.asb.Pair.{Pair}
use Rattle.bpsec_scope.specs.Parts.{Parts}
use Rattle.bpsec_context.specs.declared.judgement.Judgement.TheVariants.{Right, Misset}
use Rattle.bpsec_context.specs.declared.judgement.MissetReason.{MissetReason}
use Rattle.bpsec_context.specs.declared.judgement.MissetReason.TheVariants.{BadParameter, BadResult}
use Rattle.bpsec_context.specs.declared.hmac_parameters.HmacVariant.{HmacVariant}
use Rattle.bpsec_context.specs.declared.hmac_parameters.HmacVariant.TheVariants.{Sha256, Sha384, Sha512}
use Rattle.bpsec_context.specs.Pairs.{is_given, value_or}
use Rattle.bpsec_context.specs.Keys.{cannot_unwrap, refuses}
use Rattle.bpsec_context.specs.Calls.{only_tag, IsContextReason}
use Rattle.bpsec_context.specs.Integrity.{judged, signed, scope_of, bad_parameters, flags_of, result_given, wrapped_of, variant_of, size_of, hmac_of, code_of}
use Rattle.bpsec_context.specs.Tables as tables
use Rattle.bpsec_context.specs.OnlyTag.{only_tag_given}

length-hmac : (variant : HmacVariant) (key message : List ℕ) → length (hmac_of variant key message) ≡ size_of variant
unfolding hmac code_under
length-hmac Sha256 key message = length-sha256 _
length-hmac Sha384 key message = length-sha384 _
length-hmac Sha512 key message = length-sha512 _

small_size : (variant : HmacVariant) → size_of variant ≤ 64
small_size Sha256 = omega arith
small_size Sha384 = omega arith
small_size Sha512 = omega arith

length-code_of : (key : List ℕ) (parameters : List Pair) (parts : Parts) → length (code_of key parameters parts) ≡ size_of (variant_of parameters)
unfolding code_of
length-code_of key parameters parts = length-hmac (variant_of parameters) _ _

pub refused_is_misset : (key : List ℕ) (parameters results : List Pair) (parts : Parts) (reason : MissetReason) → signed key parameters parts ≡ Err reason → (judged (Some key) parameters results parts ≡ Misset reason) ⊎ (judged (Some key) parameters results parts ≡ Misset BadResult)
unfolding signed judged
refused_is_misset key parameters results parts reason e = tables.refused_is_misset _ _ _ _ _ _ reason e

pub misset_is_refused : (key : List ℕ) (parameters results : List Pair) (parts : Parts) (reason : MissetReason) → judged (Some key) parameters results parts ≡ Misset reason → (reason ≡ BadResult) ⊎ (signed key parameters parts ≡ Err reason)
unfolding signed judged
misset_is_refused key parameters results parts reason e = tables.misset_is_refused _ _ _ _ _ _ reason e

scope_of_bad : (parameters : List Pair) → bad_parameters parameters ≡ true → scope_of parameters ≡ 0
unfolding scope_of
scope_of_bad parameters e = rw e refl

pub bad_parameters_come_first : (key : List ℕ) (parameters : List Pair) (parts : Parts) → signed key parameters parts ≡ Err BadParameter → ((other : Option (List ℕ)) (results : List Pair) → judged other parameters results parts ≡ Misset BadParameter) × (scope_of parameters ≡ 0)
unfolding signed judged
bad_parameters_come_first key parameters parts e =
    let bad = tables.bad_parameters (bad_parameters parameters) (cannot_unwrap (wrapped_of parameters) key) (refuses (wrapped_of parameters) key) (code_of key parameters parts) e in
    (λ other results. tables.bad_parameters_first _ _ _ _ _ _ bad, scope_of_bad parameters bad)

pub reasons : (key : Option (List ℕ)) (parameters results : List Pair) (parts : Parts) (reason : MissetReason) → judged key parameters results parts ≡ Misset reason → IsContextReason reason
unfolding judged
reasons key parameters results parts reason e = tables.reasons _ _ _ _ _ _ reason e

small_flags : (bad : Bool) (n : ℕ) → (if bad then 0 else n % 8) < 8
small_flags true n = omega arith
small_flags false n = omega arith

pub scopes_are_small : (parameters : List Pair) → scope_of parameters < 8
unfolding scope_of
scopes_are_small parameters = small_flags (bad_parameters parameters) (flags_of parameters)

pub signed_length : (key : List ℕ) (parameters : List Pair) (parts : Parts) (tag : List ℕ) → signed key parameters parts ≡ Ok tag → length tag ≡ size_of (variant_of parameters)
unfolding signed
signed_length key parameters parts tag e =
    let free = tables.made_freely (bad_parameters parameters) (cannot_unwrap (wrapped_of parameters) key) (refuses (wrapped_of parameters) key) (code_of key parameters parts) tag e in
    sym (ap length free.3) ∙ length-code_of key parameters parts

pub tags_are_short : (key : List ℕ) (parameters : List Pair) (parts : Parts) (tag : List ℕ) → signed key parameters parts ≡ Ok tag → length tag ≤ 64
unfolding signed
tags_are_short key parameters parts tag e =
    let free = tables.made_freely (bad_parameters parameters) (cannot_unwrap (wrapped_of parameters) key) (refuses (wrapped_of parameters) key) (code_of key parameters parts) tag e in
    omega (arith, ap length free.3, length-code_of key parameters parts, small_size (variant_of parameters))

pub signed_is_right : (key : List ℕ) (parameters : List Pair) (parts : Parts) (tag : List ℕ) → signed key parameters parts ≡ Ok tag → judged (Some key) parameters (only_tag tag) parts ≡ Right
unfolding signed judged
signed_is_right key parameters parts tag e =
    let free = tables.made_freely (bad_parameters parameters) (cannot_unwrap (wrapped_of parameters) key) (refuses (wrapped_of parameters) key) (code_of key parameters parts) tag e in
    let size : length tag ≡ size_of (variant_of parameters) = sym (ap length free.3) ∙ length-code_of key parameters parts in
    let given = only_tag_given (size_of (variant_of parameters)) tag size (omega (arith, small_size (variant_of parameters))) in
    tables.judged_right _ _ _ _ _ free.0 (ap (λ g. not (is_given g)) given) free.1 free.2 ((bytes_eq-Decides (value_or [] (result_given parameters (only_tag tag))) (code_of key parameters parts)).1 (ap (value_or []) given ∙ sym free.3))
