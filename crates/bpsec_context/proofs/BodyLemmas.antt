-- Bodies that are written in place, and what sealing and opening make of them.
use Rattle.std.proofs.Common.{◌≡◌, ℕ, ◌++◌, Bool, true, false, List, length, take, drop, sym, ap, ◌∙◌, refl}
use Rattle.std.specs.Prelude.{Option, None, Ok, unwrap_or, [], bytes_eq}
use Rattle.std.specs.Bool.{OnTrue}
use Rattle.std.proofs.lemmas.List.{take_at}
use Rattle.bpsec_asb.specs.declared.asb.Pair.{Pair}
use Rattle.bpsec_scope.specs.Parts.{Parts}
use Rattle.bpsec_context.specs.Reasons.{first}
use Rattle.bpsec_context.specs.Calls.{Protected}
use Rattle.bpsec_context.specs.Confidentiality.{bad_parameters, key_refusals, variant_of, wrapped_of, enciphered, tag_over, refusals, sealed, checked, opened, tag_in, ciphertext_in, result_given}

-- a list that is written over another of its length
pub overwritten_whole : (old new : List ℕ) → length new ≡ length old → take (length old) (new ++ drop (length new) old) ≡ new
overwritten_whole old new same = take_at new (drop (length new) old) (length old) same

made : List ℕ → List ℕ → Protected
made ciphertext tag = record { ciphertext = ciphertext; tag = tag }

pub sealed_is : (key : List ℕ) (parameters : List Pair) (parts : Parts) (body ciphertext tag : List ℕ) → bad_parameters parameters ≡ false → first (key_refusals (variant_of parameters) (wrapped_of parameters) key) ≡ None → ciphertext ≡ enciphered key parameters body → tag ≡ tag_over key parameters parts ciphertext → sealed key parameters parts body ≡ Ok (record { ciphertext = ciphertext; tag = tag })
unfolding sealed made
sealed_is key parameters parts body ciphertext tag well free is_ciphertext is_tag =
    let tags : tag_over key parameters parts (enciphered key parameters body) ≡ tag = ap (tag_over key parameters parts) (sym is_ciphertext) ∙ sym is_tag in
    let same : made (enciphered key parameters body) (tag_over key parameters parts (enciphered key parameters body)) ≡ made ciphertext tag = cc in
    rw (well, free) (ap Ok same)

pub opened_is : (key : Option (List ℕ)) (parameters results : List Pair) (parts : Parts) (body : List ℕ) → first (refusals key parameters results body) ≡ None → bytes_eq (tag_in (result_given results) body) (tag_over (unwrap_or key []) parameters parts (ciphertext_in (result_given results) body)) ≡ true → opened key parameters results parts body ≡ enciphered (unwrap_or key []) parameters (ciphertext_in (result_given results) body)
unfolding opened checked
opened_is key parameters results parts body free right = rw (free, right) refl

-- ---- facts under a test

pub on_true : (test : Bool) (P : Type 0) → P → OnTrue test P
on_true true P p = p
on_true false P p = tt

pub under : (test : Bool) (P : Type 0) → OnTrue test P → test ≡ true → P
under true P p e = p
under false P p e = absurd cc

pub map_true : (test : Bool) (P Q : Type 0) → (P → Q) → OnTrue test P → OnTrue test Q
map_true true P Q f p = f p
map_true false P Q f p = tt
