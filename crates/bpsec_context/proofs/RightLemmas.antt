-- What is judged Right is what signing or sealing gives.
use Rattle.std.proofs.Common.{◌≡◌, ℕ, false, not, List, [], sym, ap, ◌∙◌, refl}
use Rattle.std.specs.Prelude.{Some, Ok, bytes_eq}
use Rattle.std.proofs.lemmas.Slice.Eq.{bytes_eq-Decides}
use Rattle.gcm_core.proofs.LawLemmas.{ciphered_twice}
use Rattle.bpsec_asb.specs.declared.asb.Pair.{Pair}
use Rattle.bpsec_scope.specs.Parts.{Parts}
use Rattle.bpsec_context.specs.declared.judgement.Judgement.TheVariants.{Right}
use Rattle.bpsec_context.specs.Calls.{Protected}
use Rattle.bpsec_context.specs.Pairs.{is_given, value_or}
use Rattle.bpsec_context.specs.Keys.{cannot_unwrap, refuses}
use Rattle.bpsec_context.specs.Integrity as integrity
use Rattle.bpsec_context.specs.Confidentiality as confidentiality
use Rattle.bpsec_context.specs.Tables as tables

pub right_is_signed : (key : List ℕ) (parameters results : List Pair) (parts : Parts) → integrity.judged (Some key) parameters results parts ≡ Right → integrity.signed key parameters parts ≡ Ok (value_or [] (integrity.result_given parameters results))
unfolding integrity.judged integrity.signed
right_is_signed key parameters results parts e =
    let bad = integrity.bad_parameters parameters in
    let wrapped = integrity.wrapped_of parameters in
    let given = value_or [] (integrity.result_given parameters results) in
    let code = integrity.code_of key parameters parts in
    let free = tables.right_is_free bad (not (is_given (integrity.result_given parameters results))) false (cannot_unwrap wrapped key) (refuses wrapped key) (bytes_eq given code) e in
    let same : given ≡ code = (bytes_eq-Decides given code).0 free.3 in
    tables.free_is_made bad (cannot_unwrap wrapped key) (refuses wrapped key) code free.0 free.1 free.2 ∙ ap Ok (sym same)

enciphered_twice : (key : List ℕ) (parameters : List Pair) (body : List ℕ) → confidentiality.enciphered key parameters (confidentiality.enciphered key parameters body) ≡ body
unfolding confidentiality.enciphered
enciphered_twice key parameters body =
    ciphered_twice (confidentiality.block_cipher key parameters) (confidentiality.vector_of parameters) body

made : List ℕ → List ℕ → Protected
made ciphertext tag = record { ciphertext = ciphertext; tag = tag }

opened_right : (key : List ℕ) (parameters results : List Pair) (parts : Parts) (body : List ℕ) → confidentiality.checked (Some key) parameters results parts body ≡ Right → confidentiality.opened (Some key) parameters results parts body ≡ confidentiality.enciphered key parameters (confidentiality.ciphertext_in (confidentiality.result_given results) body)
unfolding confidentiality.opened
opened_right key parameters results parts body e = rw e refl

free_to_seal : (key : List ℕ) (parameters results : List Pair) (parts : Parts) (plain body : List ℕ) → confidentiality.checked (Some key) parameters results parts body ≡ Right → (confidentiality.sealed key parameters parts plain ≡ Ok (confidentiality.protected key parameters parts plain)) × (confidentiality.tag_in (confidentiality.result_given results) body ≡ confidentiality.tag_over key parameters parts (confidentiality.ciphertext_in (confidentiality.result_given results) body))
unfolding confidentiality.checked confidentiality.sealed
free_to_seal key parameters results parts plain body e =
    let bad = confidentiality.bad_parameters parameters in
    let wrapped = confidentiality.wrapped_of parameters in
    let long = confidentiality.wrong_length (confidentiality.variant_of parameters) wrapped key in
    let given = confidentiality.result_given results in
    let tag = confidentiality.tag_in given body in
    let due = confidentiality.tag_over key parameters parts (confidentiality.ciphertext_in given body) in
    let free = tables.right_is_free bad (confidentiality.lacks_tag given body) false long (refuses wrapped key) (bytes_eq tag due) e in
    (tables.free_is_made bad long (refuses wrapped key) (confidentiality.protected key parameters parts plain) free.0 free.1 free.2, (bytes_eq-Decides tag due).0 free.3)

pub right_is_sealed : (key : List ℕ) (parameters results : List Pair) (parts : Parts) (body : List ℕ) → confidentiality.checked (Some key) parameters results parts body ≡ Right → confidentiality.sealed key parameters parts (confidentiality.opened (Some key) parameters results parts body) ≡ Ok (record { ciphertext = confidentiality.ciphertext_in (confidentiality.result_given results) body; tag = confidentiality.tag_in (confidentiality.result_given results) body })
unfolding made
right_is_sealed key parameters results parts body e =
    let ciphertext = confidentiality.ciphertext_in (confidentiality.result_given results) body in
    let tag = confidentiality.tag_in (confidentiality.result_given results) body in
    let plain = confidentiality.opened (Some key) parameters results parts body in
    let facts = free_to_seal key parameters results parts plain body e in
    let again : confidentiality.enciphered key parameters plain ≡ ciphertext =
    ap (confidentiality.enciphered key parameters) (opened_right key parameters results parts body e) ∙ enciphered_twice key parameters ciphertext
    in
    let tags : confidentiality.tag_over key parameters parts (confidentiality.enciphered key parameters plain) ≡ tag =
    ap (confidentiality.tag_over key parameters parts) again ∙ sym facts.1
    in
    let same : made (confidentiality.enciphered key parameters plain) (confidentiality.tag_over key parameters parts (confidentiality.enciphered key parameters plain)) ≡ made ciphertext tag = cc in
    facts.0 ∙ ap Ok same
