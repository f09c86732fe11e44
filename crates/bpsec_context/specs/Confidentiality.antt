-- Context 2, BCB-AES-GCM: RFC 9173, section 4. That the tag may stand in the body, behind the ciphertext, is this project's own.
use Rattle.std.specs.Prelude.{ℕ, ◌-◌, ◌*◌, ◌%◌, Bool, true, false, not, ◌==◌, ◌||◌, nat_lt, if◌then◌else◌, List, [], ◌∷◌, length, take, bytes_eq, is_none, unwrap_or, Option, Some, None, Result, Ok, Err}
use Rattle.std.proofs.Common.{drop}
use Rattle.bpsec_asb.specs.declared.asb.Pair.{Pair}
use Rattle.bpsec_scope.specs.Parts.{Parts}
use Rattle.bpsec_scope.specs.Covered.{scoped, aad}
use Rattle.aes_core.specs.Cipher.{cipher}
use Rattle.gcm_core.specs.Gcm.{ciphered, tag_of}
use Rattle.bpsec_context.specs.declared.judgement.Judgement.{Judgement}
use Rattle.bpsec_context.specs.declared.judgement.Judgement.TheVariants.{Right, Wrong, Misset}
use Rattle.bpsec_context.specs.declared.judgement.MissetReason.{MissetReason}
use Rattle.bpsec_context.specs.declared.judgement.MissetReason.TheVariants.{BadParameter, BadResult, NoKey, KeyLength, UnwrapRefused}
use Rattle.bpsec_context.specs.declared.gcm_parameters.GcmVariant.{GcmVariant}
use Rattle.bpsec_context.specs.declared.gcm_parameters.GcmVariant.TheVariants.{Aes128, Aes256}
use Rattle.bpsec_context.specs.Values.{number_of}
use Rattle.bpsec_context.specs.Pairs.{given, Given, is_malformed, value_of, value_or, is_given, bytes_of, exactly, wrapped_key, vector_lengths}
use Rattle.bpsec_context.specs.Reasons.{Table, first, judgement, unless_refused}
use Rattle.bpsec_context.specs.Keys.{cannot_unwrap, refuses, working_key, working_length}
use Rattle.bpsec_context.specs.Calls.{Protected}

-- ---- the parameters (section 4.3)

abbrev pub vector_given : List Pair → Given (List ℕ)
vector_given parameters = given (bytes_of vector_lengths) 1 parameters

-- the AES variant: 1 and 3 are A128GCM and A256GCM
abbrev pub variant_numbered : ℕ → Option GcmVariant
variant_numbered n = if n == 1 then Some Aes128 else if n == 3 then Some Aes256 else None

abbrev pub variant_from : Option ℕ → Option GcmVariant
variant_from None = None
variant_from (Some n) = variant_numbered n

abbrev pub variant_read : List ℕ → Option GcmVariant
variant_read value = variant_from (number_of value)

abbrev pub variant_given : List Pair → Given GcmVariant
variant_given parameters = given variant_read 2 parameters

abbrev pub wrapped_given : List Pair → Given (List ℕ)
wrapped_given parameters = given wrapped_key 3 parameters

abbrev pub scope_given : List Pair → Given ℕ
scope_given parameters = given number_of 4 parameters

-- the vector must be there
abbrev pub bad_parameters : List Pair → Bool
bad_parameters parameters =
    not (is_given (vector_given parameters))
    || (is_malformed (variant_given parameters) || (is_malformed (wrapped_given parameters) || is_malformed (scope_given parameters)))

abbrev pub vector_of : List Pair → List ℕ
vector_of parameters = value_or [] (vector_given parameters)

-- absent: 3
abbrev pub variant_of : List Pair → GcmVariant
variant_of parameters = value_or Aes256 (variant_given parameters)

abbrev pub wrapped_of : List Pair → Option (List ℕ)
wrapped_of parameters = value_of (wrapped_given parameters)

-- absent: 7
abbrev pub flags_of : List Pair → ℕ
flags_of parameters = value_or 7 (scope_given parameters)

-- the scope of well-formed parameters, modulo 8; else 0
unfoldable pub scope_of : List Pair → ℕ
scope_of parameters = if bad_parameters parameters then 0 else flags_of parameters % 8

-- ---- the cipher (section 4.7; NIST SP 800-38D)

-- how many words its keys have
abbrev pub words_of : GcmVariant → ℕ
words_of Aes128 = 4
words_of Aes256 = 8

-- AES under the working key
abbrev pub block_cipher : List ℕ → List Pair → List ℕ → List ℕ
block_cipher key parameters = cipher (words_of (variant_of parameters)) (working_key (wrapped_of parameters) key)

unfoldable pub enciphered : List ℕ → List Pair → List ℕ → List ℕ
enciphered key parameters body = ciphered (block_cipher key parameters) (vector_of parameters) body

-- the tag of a ciphertext and the additional authenticated data
unfoldable pub tag_over : List ℕ → List Pair → Parts → List ℕ → List ℕ
tag_over key parameters parts ciphertext = tag_of (block_cipher key parameters) (vector_of parameters) (aad (scoped parts (flags_of parameters))) ciphertext

-- ---- where the tag stands

abbrev pub result_given : List Pair → Given (List ℕ)
result_given results = given (bytes_of (exactly 16)) 1 results

-- in the result; where there is none, it is the last 16 bytes of the body
abbrev pub tag_in : Given (List ℕ) → List ℕ → List ℕ
tag_in (Ok (Some tag)) body = tag
tag_in (Ok None) body = drop (length body - 16) body
tag_in (Err e) body = []

abbrev pub ciphertext_in : Given (List ℕ) → List ℕ → List ℕ
ciphertext_in (Ok (Some tag)) body = body
ciphertext_in (Ok None) body = take (length body - 16) body
ciphertext_in (Err e) body = body

-- no tag is there
abbrev pub lacks_tag : Given (List ℕ) → List ℕ → Bool
lacks_tag (Ok (Some tag)) body = false
lacks_tag (Ok None) body = nat_lt (length body) 16
lacks_tag (Err e) body = true

-- ---- the judgement

-- a key that can't unwrap, or a working key of another length than the variant's
abbrev pub wrong_length : GcmVariant → Option (List ℕ) → List ℕ → Bool
wrong_length variant wrapped key = cannot_unwrap wrapped key || not (working_length wrapped key == 4 * words_of variant)

-- what stands in the way of a key
abbrev pub key_refusals : GcmVariant → Option (List ℕ) → List ℕ → Table
key_refusals variant wrapped key = (wrong_length variant wrapped key, KeyLength) ∷ (refuses wrapped key, UnwrapRefused) ∷ []

-- what stands in the way, in this order
abbrev pub refusals : Option (List ℕ) → List Pair → List Pair → List ℕ → Table
refusals key parameters results body =
    (bad_parameters parameters, BadParameter)
    ∷ (lacks_tag (result_given results) body, BadResult)
    ∷ (is_none key, NoKey)
    ∷ key_refusals (variant_of parameters) (wrapped_of parameters) (unwrap_or key [])

-- Right where the tag is that of the ciphertext
unfoldable pub checked : Option (List ℕ) → List Pair → List Pair → Parts → List ℕ → Judgement
checked key parameters results parts body =
    judgement (first (refusals key parameters results body))
    (bytes_eq (tag_in (result_given results) body) (tag_over (unwrap_or key []) parameters parts (ciphertext_in (result_given results) body)))

-- the body where it is Right, and else as it was
abbrev pub where_right : Judgement → List ℕ → List ℕ → List ℕ
where_right Right opened body = opened
where_right Wrong opened body = body
where_right (Misset reason) opened body = body

unfoldable pub opened : Option (List ℕ) → List Pair → List Pair → Parts → List ℕ → List ℕ
opened key parameters results parts body =
    where_right (checked key parameters results parts body)
    (enciphered (unwrap_or key []) parameters (ciphertext_in (result_given results) body)) body

-- what stands in the way of sealing
abbrev pub sealing_refusals : List ℕ → List Pair → Table
sealing_refusals key parameters =
    (bad_parameters parameters, BadParameter) ∷ key_refusals (variant_of parameters) (wrapped_of parameters) key

abbrev pub protected : List ℕ → List Pair → Parts → List ℕ → Protected
protected key parameters parts body = record {
  ciphertext = enciphered key parameters body;
  tag = tag_over key parameters parts (enciphered key parameters body);
}

-- ciphertext and tag, or the first reason against it
unfoldable pub sealed : List ℕ → List Pair → Parts → List ℕ → Result Protected MissetReason
sealed key parameters parts body = unless_refused (first (sealing_refusals key parameters)) (protected key parameters parts body)
