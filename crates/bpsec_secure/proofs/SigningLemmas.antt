-- Signing with the parameters of a bib item gives the HMAC under its working key.
use Rattle.std.proofs.Common.{◌≡◌, ℕ, ◌+◌, ◌<◌, ◌≤◌, ◌==◌, ◌||◌, Bool, true, false, not, List, length, refl, ap, ◌∙◌, inl, inr, arith}
use Rattle.std.specs.Prelude.{Option, Some, None, Ok}
use Rattle.std.proofs.lemmas.Bool.{eqb-true, or_parts}
use Rattle.bpsec_scope.specs.Parts.{Parts}
use Rattle.bpsec_scope.specs.Covered.{scoped, ippt}
use Rattle.bpsec_context.specs.Keys.{working_key, working_length, cannot_unwrap, refuses}
use Rattle.bpsec_context.specs.Integrity as integrity
use Rattle.bpsec_policy.specs.declared.ring.NamedKey.{NamedKey}
use Rattle.bpsec_plan.specs.declared.item.Cover.{Cover}
use Rattle.bpsec_plan.specs.Items.{is_integrity_variant}
use Rattle.bpsec_facts.specs.Refusal.{key_named, cannot_wrap, is_wrappable, is_wrapping}
use Rattle.bpsec_facts.specs.Left.{key_of_cover, flags_of}
use Rattle.bpsec_secure.specs.Parameters.{wrapped_by, wrapped_key, outer_key_by, outer_key, wrapped_under, hmac_parameters, integrity_parameters}
use Rattle.bpsec_secure.specs.Usable.{HasKeys, Signs}
use Rattle.bpsec_secure.specs.Secured.{code_of, hmac_of}
use Rattle.bpsec_secure.proofs.KeyLemmas.{Unwraps, Longer, AreBytes, not_refused, works, wrapped_fits, length-wrapped}
use Rattle.bpsec_facts.proofs.Numbers.{NumbersAgain}
use Rattle.bpsec_secure.proofs.Given.{StringsAgain, Fits, OneOf, hmac_flags_of, hmac_wrapped_of, hmac_by, hmac_well_formed}

-- the laws of the layers below
pub record Laws : Type 0 where
  pub numbers : NumbersAgain
  pub texts : StringsAgain
  pub unwraps : Unwraps
  pub longer : Longer

-- ---- keys

not_true : (b : Bool) → not b ≡ false → b ≡ true
not_true true is = refl
not_true false is = absurd cc

-- what a key that wraps gives
pub record Opens (wrapped : Option (List ℕ)) (outer key : List ℕ) : Type 0 where
  pub fits : Fits wrapped
  pub can : cannot_unwrap wrapped outer ≡ false
  pub accepts : refuses wrapped outer ≡ false
  pub working : working_key wrapped outer ≡ key

pub opens_by : Laws → (ring : List NamedKey) (key : List ℕ) (name : Option (List ℕ)) → length key ≤ 64 → cannot_wrap ring key name ≡ false → AreBytes key → AreBytes (outer_key_by ring key name) → Opens (wrapped_by ring key name) (outer_key_by ring key name) key
opens_by laws ring key None short can bytes outer = record { fits = tt; can = refl; accepts = refl; working = refl }
opens_by laws ring key (Some name) short can bytes outer =
    let parts = or_parts (not (is_wrappable key)) (not (is_wrapping (key_named ring name))) can in
    let wrappable : is_wrappable key ≡ true = not_true (is_wrappable key) parts.0 in
    let wrapping : is_wrapping (key_named ring name) ≡ true = not_true (is_wrapping (key_named ring name)) parts.1 in
    let long : length (wrapped_under (key_named ring name) key) ≡ length key + 8 = length-wrapped laws.longer (key_named ring name) key wrapping outer wrappable bytes in
    record {
      fits = (omega arith, wrapped_fits laws.longer (key_named ring name) key wrapping outer wrappable bytes);
      can = ap not wrapping;
      accepts = not_refused laws.unwraps (key_named ring name) key wrapping outer wrappable bytes;
      working = works laws.unwraps (key_named ring name) key wrapping outer wrappable bytes;
    }

pub opens : Laws → (ring : List NamedKey) (cover : Cover) → HasKeys ring cover → AreBytes (key_of_cover ring cover) → AreBytes (outer_key ring cover) → Opens (wrapped_key ring cover) (outer_key ring cover) (key_of_cover ring cover)
opens laws ring cover has bytes outer = opens_by laws ring (key_of_cover ring cover) cover.wrapped_with has.short has.wraps bytes outer

-- the working key has that length before it is unwrapped
long_by : Laws → (ring : List NamedKey) (key : List ℕ) (name : Option (List ℕ)) → cannot_wrap ring key name ≡ false → AreBytes key → AreBytes (outer_key_by ring key name) → working_length (wrapped_by ring key name) (outer_key_by ring key name) ≡ length key
long_by laws ring key None can bytes outer = refl
long_by laws ring key (Some name) can bytes outer =
    let parts = or_parts (not (is_wrappable key)) (not (is_wrapping (key_named ring name))) can in
    let long : length (wrapped_under (key_named ring name) key) ≡ length key + 8 = length-wrapped laws.longer (key_named ring name) key (not_true _ parts.1) outer (not_true _ parts.0) bytes in
    omega arith

pub working_long : Laws → (ring : List NamedKey) (cover : Cover) → HasKeys ring cover → AreBytes (key_of_cover ring cover) → AreBytes (outer_key ring cover) → {n : ℕ} → length (key_of_cover ring cover) ≡ n → working_length (wrapped_key ring cover) (outer_key ring cover) ≡ n
working_long laws ring cover has bytes outer is = long_by laws ring (key_of_cover ring cover) cover.wrapped_with has.wraps bytes outer ∙ is

-- ---- the variant

one_by : (v : ℕ) (a b : Bool) → (v == 5) ≡ a → (v == 6) ≡ b → (a || (b || v == 7)) ≡ true → OneOf v
one_by v true b is five any = inl (eqb-true v 5 is)
one_by v false true is six any = inr (inl (eqb-true v 6 six))
one_by v false false is six any = inr (inr (eqb-true v 7 any))

pub one_of : (v : ℕ) → is_integrity_variant v ≡ true → OneOf v
one_of v is = one_by v (v == 5) (v == 6) refl refl is

-- ---- signing

pub code_is : Laws → (variant : ℕ) (wrapped : Option (List ℕ)) (flags : ℕ) (outer key : List ℕ) (parts : Parts) → OneOf variant → flags < 8 → Opens wrapped outer key → integrity.code_of outer (hmac_parameters variant wrapped flags) parts ≡ hmac_of variant key (ippt (scoped parts flags))
unfolding integrity.code_of
code_is laws variant wrapped flags outer key parts one small opens =
    rw (hmac_by laws.numbers variant wrapped flags _ _ one, hmac_wrapped_of laws.texts variant wrapped flags opens.fits, hmac_flags_of laws.numbers variant wrapped flags small, opens.working) refl

pub signs_with : Laws → (variant : ℕ) (wrapped : Option (List ℕ)) (flags : ℕ) (outer key : List ℕ) (parts : Parts) → OneOf variant → flags < 8 → Opens wrapped outer key → integrity.signed outer (hmac_parameters variant wrapped flags) parts ≡ Ok (hmac_of variant key (ippt (scoped parts flags)))
unfolding integrity.signed
signs_with laws variant wrapped flags outer key parts one small opens =
    rw (hmac_well_formed laws.numbers laws.texts variant wrapped flags one opens.fits small, hmac_wrapped_of laws.texts variant wrapped flags opens.fits, opens.can, opens.accepts) (ap Ok (code_is laws variant wrapped flags outer key parts one small opens))

pub signs : Laws → (ring : List NamedKey) (cover : Cover) (parts : Parts) → Signs ring cover → AreBytes (key_of_cover ring cover) → AreBytes (outer_key ring cover) → integrity.signed (outer_key ring cover) (integrity_parameters ring cover) parts ≡ Ok (code_of ring cover parts)
unfolding code_of
signs laws ring cover parts usable bytes outer =
    signs_with laws cover.variant (wrapped_key ring cover) (flags_of cover) (outer_key ring cover) (key_of_cover ring cover) parts (one_of cover.variant usable.variant) (omega arith) (opens laws ring cover usable.keys bytes outer)
