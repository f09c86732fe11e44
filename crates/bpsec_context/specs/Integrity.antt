-- Context 1, BIB-HMAC-SHA2: RFC 9173, section 3.
use Rattle.std.specs.Prelude.{ℕ, ◌%◌, Bool, not, ◌==◌, ◌||◌, if◌then◌else◌, List, [], ◌∷◌, bytes_eq, is_none, unwrap_or, Option, Some, None, Result}
use Rattle.bpsec_asb.specs.declared.asb.Pair.{Pair}
use Rattle.bpsec_scope.specs.Parts.{Parts}
use Rattle.bpsec_scope.specs.Covered.{scoped, ippt}
use Rattle.hmac_core.specs.Hmac.{hmac}
use Rattle.sha2.specs.Sha256.{sha256}
use Rattle.sha2.specs.Sha512.{sha384, sha512}
use Rattle.bpsec_context.specs.declared.judgement.Judgement.{Judgement}
use Rattle.bpsec_context.specs.declared.judgement.MissetReason.{MissetReason}
use Rattle.bpsec_context.specs.declared.judgement.MissetReason.TheVariants.{BadParameter, BadResult, NoKey, KeyLength, UnwrapRefused}
use Rattle.bpsec_context.specs.declared.hmac_parameters.HmacVariant.{HmacVariant}
use Rattle.bpsec_context.specs.declared.hmac_parameters.HmacVariant.TheVariants.{Sha256, Sha384, Sha512}
use Rattle.bpsec_context.specs.Values.{number_of}
use Rattle.bpsec_context.specs.Pairs.{given, Given, is_malformed, value_of, value_or, is_given, bytes_of, exactly, wrapped_key}
use Rattle.bpsec_context.specs.Reasons.{Table, first, judgement, unless_refused}
use Rattle.bpsec_context.specs.Keys.{cannot_unwrap, refuses, working_key}

-- ---- the parameters (section 3.3)

-- the SHA variant: 5, 6 and 7 are HMAC with SHA-256, SHA-384 and SHA-512, of their whole length
abbrev pub variant_numbered : ℕ → Option HmacVariant
variant_numbered n = if n == 5 then Some Sha256 else if n == 6 then Some Sha384 else if n == 7 then Some Sha512 else None

abbrev pub variant_from : Option ℕ → Option HmacVariant
variant_from None = None
variant_from (Some n) = variant_numbered n

abbrev pub variant_read : List ℕ → Option HmacVariant
variant_read value = variant_from (number_of value)

abbrev pub variant_given : List Pair → Given HmacVariant
variant_given parameters = given variant_read 1 parameters

abbrev pub wrapped_given : List Pair → Given (List ℕ)
wrapped_given parameters = given wrapped_key 2 parameters

abbrev pub scope_given : List Pair → Given ℕ
scope_given parameters = given number_of 3 parameters

abbrev pub bad_parameters : List Pair → Bool
bad_parameters parameters = is_malformed (variant_given parameters) || (is_malformed (wrapped_given parameters) || is_malformed (scope_given parameters))

-- absent: 6
abbrev pub variant_of : List Pair → HmacVariant
variant_of parameters = value_or Sha384 (variant_given parameters)

abbrev pub wrapped_of : List Pair → Option (List ℕ)
wrapped_of parameters = value_of (wrapped_given parameters)

-- absent: 7
abbrev pub flags_of : List Pair → ℕ
flags_of parameters = value_or 7 (scope_given parameters)

-- the scope of well-formed parameters, modulo 8; else 0
unfoldable pub scope_of : List Pair → ℕ
scope_of parameters = if bad_parameters parameters then 0 else flags_of parameters % 8

-- ---- the code (section 3.7)

-- how many bytes it has
abbrev pub size_of : HmacVariant → ℕ
size_of Sha256 = 32
size_of Sha384 = 48
size_of Sha512 = 64

abbrev pub hmac_of : HmacVariant → List ℕ → List ℕ → List ℕ
hmac_of Sha256 key message = hmac sha256 64 key message
hmac_of Sha384 key message = hmac sha384 128 key message
hmac_of Sha512 key message = hmac sha512 128 key message

-- of the integrity-protected plaintext, under the working key
unfoldable pub code_of : List ℕ → List Pair → Parts → List ℕ
code_of key parameters parts = hmac_of (variant_of parameters) (working_key (wrapped_of parameters) key) (ippt (scoped parts (flags_of parameters)))

-- ---- the judgement

-- the result: the code, with the length of the variant
abbrev pub result_given : List Pair → List Pair → Given (List ℕ)
result_given parameters results = given (bytes_of (exactly (size_of (variant_of parameters)))) 1 results

-- what stands in the way of a key
abbrev pub key_refusals : Option (List ℕ) → List ℕ → Table
key_refusals wrapped key = (cannot_unwrap wrapped key, KeyLength) ∷ (refuses wrapped key, UnwrapRefused) ∷ []

-- what stands in the way, in this order
abbrev pub refusals : Option (List ℕ) → List Pair → List Pair → Table
refusals key parameters results =
    (bad_parameters parameters, BadParameter)
    ∷ (not (is_given (result_given parameters results)), BadResult)
    ∷ (is_none key, NoKey)
    ∷ key_refusals (wrapped_of parameters) (unwrap_or key [])

-- Right where the result is the code
unfoldable pub judged : Option (List ℕ) → List Pair → List Pair → Parts → Judgement
judged key parameters results parts =
    judgement (first (refusals key parameters results))
    (bytes_eq (value_or [] (result_given parameters results)) (code_of (unwrap_or key []) parameters parts))

-- what stands in the way of signing
abbrev pub signing_refusals : List ℕ → List Pair → Table
signing_refusals key parameters = (bad_parameters parameters, BadParameter) ∷ key_refusals (wrapped_of parameters) key

-- the code, or the first reason against it
unfoldable pub signed : List ℕ → List Pair → Parts → Result (List ℕ) MissetReason
signed key parameters parts = unless_refused (first (signing_refusals key parameters)) (code_of key parameters parts)
