-- Context -1, BIB-AES-CMAC.
use Rattle.std.specs.Prelude.{ℕ, ◌%◌, ◌==◌, Bool, not, if◌then◌else◌, List, [], ◌∷◌, length, bytes_eq, is_none, unwrap_or, Option, Some, None, Result}
use Rattle.aes_core.specs.Cipher.{cipher}
use Rattle.cmac_core.specs.Cmac.{cmac}
use Rattle.bpsec_asb.specs.declared.asb.Pair.{Pair}
use Rattle.bpsec_scope.specs.Parts.{Parts}
use Rattle.bpsec_scope.specs.Covered.{scoped, ippt}
use Rattle.bpsec_context.specs.declared.judgement.Judgement.{Judgement}
use Rattle.bpsec_context.specs.declared.judgement.MissetReason.{MissetReason}
use Rattle.bpsec_context.specs.declared.judgement.MissetReason.TheVariants.{BadParameter, BadResult, NoKey, KeyLength}
use Rattle.bpsec_context.specs.Values.{number_of, content_of}
use Rattle.bpsec_context.specs.Pairs.{Given, given, is_malformed, value_or, is_given}
use Rattle.bpsec_context.specs.Reasons.{Table, first, judgement, unless_refused}

-- ---- the parameters: 3 is the scope flags

abbrev pub flags_given : List Pair → Given ℕ
flags_given parameters = given number_of 3 parameters

abbrev pub bad_parameters : List Pair → Bool
bad_parameters parameters = is_malformed (flags_given parameters)

-- absent: 7
abbrev pub flags_of : List Pair → ℕ
flags_of parameters = value_or 7 (flags_given parameters)

-- the flags of well-formed parameters
abbrev pub flags_read : List Pair → Option ℕ
flags_read parameters = if bad_parameters parameters then None else Some (flags_of parameters)

-- the scope of well-formed parameters, modulo 8; else 0
unfoldable pub scope_of : List Pair → ℕ
scope_of parameters = if bad_parameters parameters then 0 else flags_of parameters % 8

-- ---- the result: 1 is the tag, of 16 bytes

abbrev pub of_16_bytes : Option (List ℕ) → Option (List ℕ)
of_16_bytes None = None
of_16_bytes (Some content) = if length content == 16 then Some content else None

abbrev pub tag_read : List ℕ → Option (List ℕ)
tag_read value = of_16_bytes (content_of value)

abbrev pub result_given : List Pair → Given (List ℕ)
result_given results = given tag_read 1 results

-- ---- the tag: AES-CMAC of the integrity-protected plaintext

unfoldable pub tag_of : List ℕ → List Pair → Parts → List ℕ
tag_of key parameters parts = cmac (cipher 4 key) (ippt (scoped parts (flags_of parameters)))

-- ---- the judgement

-- a key of AES-128 has 16 bytes
abbrev pub wrong_length : List ℕ → Bool
wrong_length key = not (length key == 16)

-- what stands in the way, in this order
abbrev pub refusals : Option (List ℕ) → List Pair → List Pair → Table
refusals key parameters results =
    (bad_parameters parameters, BadParameter)
    ∷ (not (is_given (result_given results)), BadResult)
    ∷ (is_none key, NoKey)
    ∷ (wrong_length (unwrap_or key []), KeyLength)
    ∷ []

-- Right where the result is the tag
unfoldable pub judged : Option (List ℕ) → List Pair → List Pair → Parts → Judgement
judged key parameters results parts =
    judgement (first (refusals key parameters results))
    (bytes_eq (value_or [] (result_given results)) (tag_of (unwrap_or key []) parameters parts))

-- what stands in the way of signing
abbrev pub signing_refusals : List ℕ → List Pair → Table
signing_refusals key parameters = (bad_parameters parameters, BadParameter) ∷ (wrong_length key, KeyLength) ∷ []

-- the tag, or the first reason against it
unfoldable pub signed : List ℕ → List Pair → Parts → Result (List ℕ) MissetReason
signed key parameters parts = unless_refused (first (signing_refusals key parameters)) (tag_of key parameters parts)
