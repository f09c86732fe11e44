-- Sealing with the parameters of a bcb item gives the ciphertext and the tag under its working key.
use Rattle.std.proofs.Common.{◌≡◌, ℕ, ◌*◌, ◌<◌, ◌≤◌, ◌==◌, ◌||◌, Bool, true, false, List, length, refl, ap, inl, inr, arith}
use Rattle.std.specs.Prelude.{Option, Ok}
use Rattle.std.proofs.lemmas.Bool.{eqb-true, eq-eqb}
use Rattle.aes_core.specs.Cipher.{cipher}
use Rattle.gcm_core.specs.Gcm.{ciphered, tag_of}
use Rattle.bpsec_scope.specs.Parts.{Parts}
use Rattle.bpsec_scope.specs.Covered.{scoped, aad}
use Rattle.bpsec_context.specs.Calls.{Protected}
use Rattle.bpsec_context.specs.Keys.{working_length}
use Rattle.bpsec_context.specs.Confidentiality as confidentiality
use Rattle.bpsec_policy.specs.declared.ring.NamedKey.{NamedKey}
use Rattle.bpsec_plan.specs.declared.item.Cover.{Cover}
use Rattle.bpsec_plan.specs.Items.{is_cipher_variant}
use Rattle.bpsec_facts.specs.Refusal.{words_of}
use Rattle.bpsec_facts.specs.Left.{key_of_cover, flags_of}
use Rattle.bpsec_secure.specs.Parameters.{wrapped_key, outer_key, gcm_parameters, cipher_parameters}
use Rattle.bpsec_secure.specs.Usable.{Ciphers}
use Rattle.bpsec_secure.specs.Secured.{protected}
use Rattle.bpsec_secure.proofs.KeyLemmas.{AreBytes}
use Rattle.bpsec_secure.proofs.Given.{OneOrThree, gcm_flags_of, gcm_wrapped_of, gcm_vector_of, gcm_words, gcm_well_formed}
use Rattle.bpsec_secure.proofs.SigningLemmas.{Laws, Opens, opens, working_long}

one_by : (v : ℕ) (a : Bool) → (v == 1) ≡ a → (a || v == 3) ≡ true → OneOrThree v
one_by v true is any = inl (eqb-true v 1 is)
one_by v false is any = inr (eqb-true v 3 any)

pub one_of : (v : ℕ) → is_cipher_variant v ≡ true → OneOrThree v
one_of v is = one_by v (v == 1) refl is

-- what the parameters hold, and what the key that wraps gives
pub record Holds (vector : List ℕ) (variant : ℕ) (wrapped : Option (List ℕ)) (flags : ℕ) (outer key : List ℕ) : Type 0 where
  pub one : OneOrThree variant
  pub small : flags < 8
  pub least : 8 ≤ length vector
  pub most : length vector ≤ 16
  pub opens : Opens wrapped outer key
  pub long : working_length wrapped outer ≡ 4 * words_of variant

made : ℕ → List ℕ → ℕ → List ℕ → Parts → List ℕ → Protected
made variant vector flags key parts body = record {
  ciphertext = ciphered (cipher (words_of variant) key) vector body;
  tag = tag_of (cipher (words_of variant) key) vector (aad (scoped parts flags)) (ciphered (cipher (words_of variant) key) vector body);
}

made_is : Laws → (vector : List ℕ) (variant : ℕ) (wrapped : Option (List ℕ)) (flags : ℕ) (outer key : List ℕ) (parts : Parts) (body : List ℕ) → Holds vector variant wrapped flags outer key → confidentiality.protected outer (gcm_parameters vector variant wrapped flags) parts body ≡ made variant vector flags key parts body
unfolding confidentiality.enciphered confidentiality.tag_over made
made_is laws vector variant wrapped flags outer key parts body holds =
    rw (gcm_words laws.numbers vector variant wrapped flags holds.one, gcm_wrapped_of laws.texts vector variant wrapped flags holds.opens.fits, gcm_flags_of laws.numbers vector variant wrapped flags holds.small, gcm_vector_of laws.texts vector variant wrapped flags holds.least holds.most, holds.opens.working) refl

right_length : Laws → (vector : List ℕ) (variant : ℕ) (wrapped : Option (List ℕ)) (flags : ℕ) (outer key : List ℕ) → Holds vector variant wrapped flags outer key → confidentiality.wrong_length (confidentiality.variant_of (gcm_parameters vector variant wrapped flags)) wrapped outer ≡ false
right_length laws vector variant wrapped flags outer key holds =
    rw (gcm_words laws.numbers vector variant wrapped flags holds.one, holds.opens.can, eq-eqb (working_length wrapped outer) (4 * words_of variant) holds.long) refl

seals_with : Laws → (vector : List ℕ) (variant : ℕ) (wrapped : Option (List ℕ)) (flags : ℕ) (outer key : List ℕ) (parts : Parts) (body : List ℕ) → Holds vector variant wrapped flags outer key → confidentiality.sealed outer (gcm_parameters vector variant wrapped flags) parts body ≡ Ok (made variant vector flags key parts body)
unfolding confidentiality.sealed
seals_with laws vector variant wrapped flags outer key parts body holds =
    rw (gcm_well_formed laws.numbers laws.texts vector variant wrapped flags holds.least holds.most holds.one holds.opens.fits holds.small, gcm_wrapped_of laws.texts vector variant wrapped flags holds.opens.fits, right_length laws vector variant wrapped flags outer key holds, holds.opens.accepts) (ap Ok (made_is laws vector variant wrapped flags outer key parts body holds))

pub seals : Laws → (ring : List NamedKey) (cover : Cover) (vector : List ℕ) (parts : Parts) (body : List ℕ) → Ciphers ring cover vector → AreBytes (key_of_cover ring cover) → AreBytes (outer_key ring cover) → confidentiality.sealed (outer_key ring cover) (cipher_parameters ring cover vector) parts body ≡ Ok (protected ring cover vector parts body)
unfolding protected made
seals laws ring cover vector parts body usable bytes outer =
    seals_with laws vector cover.variant (wrapped_key ring cover) (flags_of cover) (outer_key ring cover) (key_of_cover ring cover) parts body (record {
      one = one_of cover.variant usable.variant;
      small = omega arith;
      least = usable.at_least;
      most = usable.at_most;
      opens = opens laws ring cover usable.keys bytes outer;
      long = working_long laws ring cover usable.keys bytes outer usable.key;
    })
