-- The contexts see the covered record alone.
use Rattle.std.proofs.Common.{◌≡◌, ℕ, List, [], ap}
use Rattle.std.specs.Prelude.{Option, unwrap_or, bytes_eq}
use Rattle.gcm_core.specs.Gcm.{tag_of}
use Rattle.bpsec_asb.specs.declared.asb.Pair.{Pair}
use Rattle.bpsec_scope.specs.Parts.{Parts}
use Rattle.bpsec_scope.specs.Covered.{Scoped, scoped, ippt, aad}
use Rattle.bpsec_context.specs.declared.judgement.Judgement.{Judgement}
use Rattle.bpsec_context.specs.Reasons.{first, judgement, unless_refused}
use Rattle.bpsec_context.specs.Calls.{Protected}
use Rattle.bpsec_context.specs.Pairs.{value_or}
use Rattle.bpsec_context.specs.Keys.{working_key}
use Rattle.bpsec_context.specs.Integrity as integrity
use Rattle.bpsec_context.specs.Confidentiality as confidentiality

same_code : (key : List ℕ) (parameters : List Pair) (a b : Parts) → scoped a (integrity.flags_of parameters) ≡ scoped b (integrity.flags_of parameters) → integrity.code_of key parameters a ≡ integrity.code_of key parameters b
unfolding integrity.code_of
same_code key parameters a b e =
    ap (λ (covered : Scoped). integrity.hmac_of (integrity.variant_of parameters) (working_key (integrity.wrapped_of parameters) key) (ippt covered)) e

pub same_judged : (key : Option (List ℕ)) (parameters results : List Pair) (a b : Parts) → scoped a (integrity.flags_of parameters) ≡ scoped b (integrity.flags_of parameters) → integrity.judged key parameters results a ≡ integrity.judged key parameters results b
unfolding integrity.judged
same_judged key parameters results a b e =
    ap (λ code. judgement (first (integrity.refusals key parameters results)) (bytes_eq (value_or [] (integrity.result_given parameters results)) code))
    (same_code (unwrap_or key []) parameters a b e)

pub same_signed : (key : List ℕ) (parameters : List Pair) (a b : Parts) → scoped a (integrity.flags_of parameters) ≡ scoped b (integrity.flags_of parameters) → integrity.signed key parameters a ≡ integrity.signed key parameters b
unfolding integrity.signed
same_signed key parameters a b e =
    ap (unless_refused (first (integrity.signing_refusals key parameters))) (same_code key parameters a b e)

same_tag : (key : List ℕ) (parameters : List Pair) (a b : Parts) (ciphertext : List ℕ) → scoped a (confidentiality.flags_of parameters) ≡ scoped b (confidentiality.flags_of parameters) → confidentiality.tag_over key parameters a ciphertext ≡ confidentiality.tag_over key parameters b ciphertext
unfolding confidentiality.tag_over
same_tag key parameters a b ciphertext e =
    ap (λ (covered : Scoped). tag_of (confidentiality.block_cipher key parameters) (confidentiality.vector_of parameters) (aad covered) ciphertext) e

pub same_checked : (key : Option (List ℕ)) (parameters results : List Pair) (a b : Parts) (body : List ℕ) → scoped a (confidentiality.flags_of parameters) ≡ scoped b (confidentiality.flags_of parameters) → confidentiality.checked key parameters results a body ≡ confidentiality.checked key parameters results b body
unfolding confidentiality.checked
same_checked key parameters results a b body e =
    ap (λ tag. judgement (first (confidentiality.refusals key parameters results body)) (bytes_eq (confidentiality.tag_in (confidentiality.result_given results) body) tag))
    (same_tag (unwrap_or key []) parameters a b (confidentiality.ciphertext_in (confidentiality.result_given results) body) e)

pub same_opened : (key : Option (List ℕ)) (parameters results : List Pair) (a b : Parts) (body : List ℕ) → scoped a (confidentiality.flags_of parameters) ≡ scoped b (confidentiality.flags_of parameters) → confidentiality.opened key parameters results a body ≡ confidentiality.opened key parameters results b body
unfolding confidentiality.opened
same_opened key parameters results a b body e =
    ap (λ (judged : Judgement). confidentiality.where_right judged (confidentiality.enciphered (unwrap_or key []) parameters (confidentiality.ciphertext_in (confidentiality.result_given results) body)) body)
    (same_checked key parameters results a b body e)

made : List ℕ → List ℕ → Protected
made ciphertext tag = record { ciphertext = ciphertext; tag = tag }

pub same_sealed : (key : List ℕ) (parameters : List Pair) (a b : Parts) (body : List ℕ) → scoped a (confidentiality.flags_of parameters) ≡ scoped b (confidentiality.flags_of parameters) → confidentiality.sealed key parameters a body ≡ confidentiality.sealed key parameters b body
unfolding confidentiality.sealed made
same_sealed key parameters a b body e =
    let ciphertext = confidentiality.enciphered key parameters body in
    ap (λ tag. unless_refused (first (confidentiality.sealing_refusals key parameters)) (made ciphertext tag))
    (same_tag key parameters a b ciphertext e)
