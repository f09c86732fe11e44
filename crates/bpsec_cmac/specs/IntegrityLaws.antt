-- Context -1 keeps the laws of an integrity context.
use Rattle.std.specs.Prelude.{◌≡◌, ◌<◌, ◌≤◌, ◌⊎◌, ℕ, ◌%◌, Bool, true, false, not, List, [], ◌∷◌, length, Option, Some, Ok, Err, refl, if◌then◌else◌}
use Rattle.std.proofs.Common.{sym, ap, ◌∙◌, arith, eq-eqb}
use Rattle.std.proofs.lemmas.Slice.Eq.{bytes_eq-Decides}
use Rattle.aes_core.specs.Cipher.{cipher}
use Rattle.aes_core.proofs.CipherLemmas.{length-cipher}
use Rattle.cmac_core.proofs.LawLemmas.{length-cmac}
use Rattle.cbor_profile.specs.Put.{byte_string}
use Rattle.bpsec_asb.specs.declared.asb.Pair.{Pair}
use Rattle.bpsec_scope.specs.Parts.{Parts}
use Rattle.bpsec_context.specs.declared.judgement.Judgement.TheVariants.{Right, Misset}
use Rattle.bpsec_context.specs.declared.judgement.MissetReason.{MissetReason}
use Rattle.bpsec_context.specs.declared.judgement.MissetReason.TheVariants.{BadParameter, BadResult}
use Rattle.bpsec_context.specs.Pairs.{is_given, value_or, value_at, read_by}
use Rattle.bpsec_context.specs.Calls.{only_tag, IsContextReason}
use Rattle.bpsec_context.specs.Tables as tables
use Rattle.bpsec_context.specs.OnlyTag.{content_of_string}
use Rattle.bpsec_cmac.specs.Integrity.{judged, signed, scope_of, bad_parameters, flags_of, tag_read, result_given, wrong_length, tag_of}

pub length-tag_of : (key : List ℕ) (parameters : List Pair) (parts : Parts) → length (tag_of key parameters parts) ≡ 16
unfolding tag_of
length-tag_of key parameters parts = length-cmac (cipher 4 key) (length-cipher 4 key) _

-- the one result [1, tag] is read as the tag
only_tag_at : (value : List ℕ) → value_at 1 (record { id = 1; value = value } ∷ []) ≡ Ok (Some value)
unfolding value_at
only_tag_at value = refl

only_tag_given : (tag : List ℕ) → length tag ≡ 16 → result_given (only_tag tag) ≡ Ok (Some tag)
only_tag_given tag size =
    let content = content_of_string tag (omega arith) in
    ap (read_by tag_read) (only_tag_at (byte_string tag)) ∙ rw (content, eq-eqb (length tag) 16 size) refl

pub refused_is_misset : (key : List ℕ) (parameters results : List Pair) (parts : Parts) (reason : MissetReason)
    → signed key parameters parts ≡ Err reason
    → (judged (Some key) parameters results parts ≡ Misset reason) ⊎ (judged (Some key) parameters results parts ≡ Misset BadResult)
unfolding signed judged
refused_is_misset key parameters results parts reason e =
    tables.refused_is_misset (bad_parameters parameters) (not (is_given (result_given results))) (wrong_length key) false _
    (tag_of key parameters parts) reason e

pub misset_is_refused : (key : List ℕ) (parameters results : List Pair) (parts : Parts) (reason : MissetReason)
    → judged (Some key) parameters results parts ≡ Misset reason → (reason ≡ BadResult) ⊎ (signed key parameters parts ≡ Err reason)
unfolding signed judged
misset_is_refused key parameters results parts reason e =
    tables.misset_is_refused (bad_parameters parameters) (not (is_given (result_given results))) (wrong_length key) false _
    (tag_of key parameters parts) reason e

scope_of_bad : (parameters : List Pair) → bad_parameters parameters ≡ true → scope_of parameters ≡ 0
unfolding scope_of
scope_of_bad parameters e = rw e refl

pub bad_parameters_come_first : (key : List ℕ) (parameters : List Pair) (parts : Parts)
    → signed key parameters parts ≡ Err BadParameter
    → ((other : Option (List ℕ)) (results : List Pair) → judged other parameters results parts ≡ Misset BadParameter)
    × (scope_of parameters ≡ 0)
unfolding signed judged
bad_parameters_come_first key parameters parts e =
    let bad = tables.bad_parameters (bad_parameters parameters) (wrong_length key) false (tag_of key parameters parts) e in (
      λ other results. tables.bad_parameters_first (bad_parameters parameters) _ _ _ false _ bad,
      scope_of_bad parameters bad,
    )

pub reasons : (key : Option (List ℕ)) (parameters results : List Pair) (parts : Parts) (reason : MissetReason)
    → judged key parameters results parts ≡ Misset reason → IsContextReason reason
unfolding judged
reasons key parameters results parts reason e = tables.reasons _ _ _ _ false _ reason e

small_flags : (bad : Bool) (n : ℕ) → (if bad then 0 else n % 8) < 8
small_flags true n = omega arith
small_flags false n = omega arith

pub scopes_are_small : (parameters : List Pair) → scope_of parameters < 8
unfolding scope_of
scopes_are_small parameters = small_flags (bad_parameters parameters) (flags_of parameters)

-- what was signed has nothing in its way, and is the tag
pub signed_freely : (key : List ℕ) (parameters : List Pair) (parts : Parts) (tag : List ℕ) → signed key parameters parts ≡ Ok tag
    → (bad_parameters parameters ≡ false) × (wrong_length key ≡ false) × (tag_of key parameters parts ≡ tag)
unfolding signed
signed_freely key parameters parts tag e =
    let free = tables.made_freely (bad_parameters parameters) (wrong_length key) false (tag_of key parameters parts) tag e in
    (free.0, free.1, free.3)

pub signed_length : (key : List ℕ) (parameters : List Pair) (parts : Parts) (tag : List ℕ) → signed key parameters parts ≡ Ok tag
    → length tag ≡ 16
signed_length key parameters parts tag e =
    sym (ap length (signed_freely key parameters parts tag e).2) ∙ length-tag_of key parameters parts

pub tags_are_short : (key : List ℕ) (parameters : List Pair) (parts : Parts) (tag : List ℕ) → signed key parameters parts ≡ Ok tag
    → length tag ≤ 64
tags_are_short key parameters parts tag e = omega (arith, signed_length key parameters parts tag e)

pub signed_is_right : (key : List ℕ) (parameters : List Pair) (parts : Parts) (tag : List ℕ) → signed key parameters parts ≡ Ok tag
    → judged (Some key) parameters (only_tag tag) parts ≡ Right
unfolding judged
signed_is_right key parameters parts tag e =
    let free = signed_freely key parameters parts tag e in
    let given = only_tag_given tag (signed_length key parameters parts tag e) in
    let due : List ℕ = tag_of key parameters parts in
    tables.judged_right (bad_parameters parameters) (not (is_given (result_given (only_tag tag)))) (wrong_length key) false _
    free.0 (ap (λ g. not (is_given g)) given) free.1 refl
    ((bytes_eq-Decides (value_or [] (result_given (only_tag tag))) due).1 (ap (value_or []) given ∙ sym free.2))
