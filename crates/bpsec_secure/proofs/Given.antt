-- What the parameters of the new blocks say to their contexts.
use Rattle.std.proofs.Common.{◌≡◌, ◌⊎◌, ℕ, ◌%◌, ◌^◌, ◌<◌, ◌≤◌, ◌==◌, ◌&&◌, true, false, List, length, refl, inl, inr, lit<, arith}
use Rattle.std.specs.Prelude.{nat_le, Option, Some, None, Ok}
use Rattle.std.proofs.lemmas.Bool.{and_from, eq-eqb, le-leb}
use Rattle.cbor_profile.specs.Put.{uint, byte_string}
use Rattle.bpsec_asb.specs.declared.asb.Pair.{Pair}
use Rattle.bpsec_context.specs.Values.{number_of, content_of}
use Rattle.bpsec_context.specs.Pairs.{given, value_at, read_by, is_malformed, bytes_of, has_length, wrapped_lengths, vector_lengths, wrapped_key}
use Rattle.bpsec_context.specs.Integrity as integrity
use Rattle.bpsec_context.specs.Confidentiality as confidentiality
use Rattle.bpsec_facts.specs.Refusal.{words_of}
use Rattle.bpsec_facts.proofs.Numbers.{NumbersAgain, number_given}
use Rattle.bpsec_secure.specs.Parameters.{hmac_parameters, gcm_parameters}
use Rattle.bpsec_secure.specs.Secured.{hmac_of}

-- the laws of values
abbrev pub StringsAgain : Type 0
StringsAgain = (content : List ℕ) → length content < 2 ^ 64 → content_of (byte_string content) ≡ Some content

-- ---- the value at an id

pub hmac_variant_at : (variant : ℕ) (wrapped : Option (List ℕ)) (flags : ℕ) → value_at 1 (hmac_parameters variant wrapped flags) ≡ Ok (Some (uint variant))
unfolding value_at hmac_parameters
hmac_variant_at variant None flags = refl
hmac_variant_at variant (Some wrapped) flags = refl

abbrev pub strings : Option (List ℕ) → Option (List ℕ)
strings None = None
strings (Some content) = Some (byte_string content)

pub hmac_wrapped_at : (variant : ℕ) (wrapped : Option (List ℕ)) (flags : ℕ) → value_at 2 (hmac_parameters variant wrapped flags) ≡ Ok (strings wrapped)
unfolding value_at hmac_parameters
hmac_wrapped_at variant None flags = refl
hmac_wrapped_at variant (Some wrapped) flags = refl

pub hmac_flags_at : (variant : ℕ) (wrapped : Option (List ℕ)) (flags : ℕ) → value_at 3 (hmac_parameters variant wrapped flags) ≡ Ok (Some (uint flags))
unfolding value_at hmac_parameters
hmac_flags_at variant None flags = refl
hmac_flags_at variant (Some wrapped) flags = refl

pub gcm_vector_at : (vector : List ℕ) (variant : ℕ) (wrapped : Option (List ℕ)) (flags : ℕ) → value_at 1 (gcm_parameters vector variant wrapped flags) ≡ Ok (Some (byte_string vector))
unfolding value_at gcm_parameters
gcm_vector_at vector variant None flags = refl
gcm_vector_at vector variant (Some wrapped) flags = refl

pub gcm_variant_at : (vector : List ℕ) (variant : ℕ) (wrapped : Option (List ℕ)) (flags : ℕ) → value_at 2 (gcm_parameters vector variant wrapped flags) ≡ Ok (Some (uint variant))
unfolding value_at gcm_parameters
gcm_variant_at vector variant None flags = refl
gcm_variant_at vector variant (Some wrapped) flags = refl

pub gcm_wrapped_at : (vector : List ℕ) (variant : ℕ) (wrapped : Option (List ℕ)) (flags : ℕ) → value_at 3 (gcm_parameters vector variant wrapped flags) ≡ Ok (strings wrapped)
unfolding value_at gcm_parameters
gcm_wrapped_at vector variant None flags = refl
gcm_wrapped_at vector variant (Some wrapped) flags = refl

pub gcm_flags_at : (vector : List ℕ) (variant : ℕ) (wrapped : Option (List ℕ)) (flags : ℕ) → value_at 4 (gcm_parameters vector variant wrapped flags) ≡ Ok (Some (uint flags))
unfolding value_at gcm_parameters
gcm_flags_at vector variant None flags = refl
gcm_flags_at vector variant (Some wrapped) flags = refl

-- ---- as they are read

abbrev pub Fits : Option (List ℕ) → Type 0
Fits None = Unit {0}
Fits (Some wrapped) = (length wrapped < 2 ^ 64) × (has_length wrapped_lengths (length wrapped) ≡ true)

pub wrapped_read : StringsAgain → (wrapped : Option (List ℕ)) → Fits wrapped → read_by wrapped_key (Ok (strings wrapped)) ≡ Ok wrapped
wrapped_read law None fits = refl
wrapped_read law (Some wrapped) fits = rw (law wrapped fits.0, fits.1) refl

pub wrapped_given : StringsAgain → (id : ℕ) (pairs : List Pair) (wrapped : Option (List ℕ)) → Fits wrapped → value_at id pairs ≡ Ok (strings wrapped) → given wrapped_key id pairs ≡ Ok wrapped
wrapped_given law id pairs wrapped fits at = rw at (wrapped_read law wrapped fits)

vector_fits : (n : ℕ) → 8 ≤ n → n ≤ 16 → has_length vector_lengths n ≡ true
vector_fits n least most =
    and_from (nat_le 8 n) (nat_le n 16 && n % 1 == 0) (le-leb 8 n least) (and_from (nat_le n 16) (n % 1 == 0) (le-leb n 16 most) (eq-eqb (n % 1) 0 (omega arith)))

pub vector_given : StringsAgain → (id : ℕ) (pairs : List Pair) (vector : List ℕ) → length vector < 2 ^ 64 → has_length vector_lengths (length vector) ≡ true → value_at id pairs ≡ Ok (Some (byte_string vector)) → given (bytes_of vector_lengths) id pairs ≡ Ok (Some vector)
vector_given law id pairs vector small fits at = rw (at, law vector small, fits) refl

-- ---- context 1

hmac_flags : NumbersAgain → (variant : ℕ) (wrapped : Option (List ℕ)) (flags : ℕ) → flags < 8 → given number_of 3 (hmac_parameters variant wrapped flags) ≡ Ok (Some flags)
hmac_flags law variant wrapped flags small =
    number_given law 3 flags (hmac_parameters variant wrapped flags) (omega arith) (hmac_flags_at variant wrapped flags)

pub hmac_flags_of : NumbersAgain → (variant : ℕ) (wrapped : Option (List ℕ)) (flags : ℕ) → flags < 8 → integrity.flags_of (hmac_parameters variant wrapped flags) ≡ flags
hmac_flags_of law variant wrapped flags small = rw (hmac_flags law variant wrapped flags small) refl

hmac_wrapped : StringsAgain → (variant : ℕ) (wrapped : Option (List ℕ)) (flags : ℕ) → Fits wrapped → integrity.wrapped_given (hmac_parameters variant wrapped flags) ≡ Ok wrapped
hmac_wrapped law variant wrapped flags fits =
    wrapped_given law 2 (hmac_parameters variant wrapped flags) wrapped fits (hmac_wrapped_at variant wrapped flags)

pub hmac_wrapped_of : StringsAgain → (variant : ℕ) (wrapped : Option (List ℕ)) (flags : ℕ) → Fits wrapped → integrity.wrapped_of (hmac_parameters variant wrapped flags) ≡ wrapped
hmac_wrapped_of law variant wrapped flags fits = rw (hmac_wrapped law variant wrapped flags fits) refl

-- the variant is one of three
abbrev pub OneOf : ℕ → Type 0
OneOf variant = (variant ≡ 5) ⊎ ((variant ≡ 6) ⊎ (variant ≡ 7))

hmac_variant_fits : NumbersAgain → (variant : ℕ) (wrapped : Option (List ℕ)) (flags : ℕ) → OneOf variant → is_malformed (integrity.variant_given (hmac_parameters variant wrapped flags)) ≡ false
hmac_variant_fits law variant wrapped flags (inl e) = rw (e, hmac_variant_at 5 wrapped flags, law 5 (lit< tt)) refl
hmac_variant_fits law variant wrapped flags (inr (inl e)) = rw (e, hmac_variant_at 6 wrapped flags, law 6 (lit< tt)) refl
hmac_variant_fits law variant wrapped flags (inr (inr e)) = rw (e, hmac_variant_at 7 wrapped flags, law 7 (lit< tt)) refl

pub hmac_by : NumbersAgain → (variant : ℕ) (wrapped : Option (List ℕ)) (flags : ℕ) (key message : List ℕ) → OneOf variant → integrity.hmac_of (integrity.variant_of (hmac_parameters variant wrapped flags)) key message ≡ hmac_of variant key message
hmac_by law variant wrapped flags key message (inl e) = rw (e, hmac_variant_at 5 wrapped flags, law 5 (lit< tt)) refl
hmac_by law variant wrapped flags key message (inr (inl e)) = rw (e, hmac_variant_at 6 wrapped flags, law 6 (lit< tt)) refl
hmac_by law variant wrapped flags key message (inr (inr e)) = rw (e, hmac_variant_at 7 wrapped flags, law 7 (lit< tt)) refl

pub hmac_well_formed : NumbersAgain → StringsAgain → (variant : ℕ) (wrapped : Option (List ℕ)) (flags : ℕ) → OneOf variant → Fits wrapped → flags < 8 → integrity.bad_parameters (hmac_parameters variant wrapped flags) ≡ false
hmac_well_formed numbers texts variant wrapped flags one fits small =
    rw (hmac_variant_fits numbers variant wrapped flags one, hmac_wrapped texts variant wrapped flags fits, hmac_flags numbers variant wrapped flags small) refl

-- ---- context 2

gcm_flags : NumbersAgain → (vector : List ℕ) (variant : ℕ) (wrapped : Option (List ℕ)) (flags : ℕ) → flags < 8 → given number_of 4 (gcm_parameters vector variant wrapped flags) ≡ Ok (Some flags)
gcm_flags law vector variant wrapped flags small =
    number_given law 4 flags (gcm_parameters vector variant wrapped flags) (omega arith) (gcm_flags_at vector variant wrapped flags)

pub gcm_flags_of : NumbersAgain → (vector : List ℕ) (variant : ℕ) (wrapped : Option (List ℕ)) (flags : ℕ) → flags < 8 → confidentiality.flags_of (gcm_parameters vector variant wrapped flags) ≡ flags
gcm_flags_of law vector variant wrapped flags small = rw (gcm_flags law vector variant wrapped flags small) refl

gcm_wrapped : StringsAgain → (vector : List ℕ) (variant : ℕ) (wrapped : Option (List ℕ)) (flags : ℕ) → Fits wrapped → confidentiality.wrapped_given (gcm_parameters vector variant wrapped flags) ≡ Ok wrapped
gcm_wrapped law vector variant wrapped flags fits =
    wrapped_given law 3 (gcm_parameters vector variant wrapped flags) wrapped fits (gcm_wrapped_at vector variant wrapped flags)

pub gcm_wrapped_of : StringsAgain → (vector : List ℕ) (variant : ℕ) (wrapped : Option (List ℕ)) (flags : ℕ) → Fits wrapped → confidentiality.wrapped_of (gcm_parameters vector variant wrapped flags) ≡ wrapped
gcm_wrapped_of law vector variant wrapped flags fits = rw (gcm_wrapped law vector variant wrapped flags fits) refl

gcm_vector : StringsAgain → (vector : List ℕ) (variant : ℕ) (wrapped : Option (List ℕ)) (flags : ℕ) → 8 ≤ length vector → length vector ≤ 16 → confidentiality.vector_given (gcm_parameters vector variant wrapped flags) ≡ Ok (Some vector)
gcm_vector law vector variant wrapped flags least most =
    vector_given law 1 (gcm_parameters vector variant wrapped flags) vector (omega arith) (vector_fits (length vector) least most) (gcm_vector_at vector variant wrapped flags)

pub gcm_vector_of : StringsAgain → (vector : List ℕ) (variant : ℕ) (wrapped : Option (List ℕ)) (flags : ℕ) → 8 ≤ length vector → length vector ≤ 16 → confidentiality.vector_of (gcm_parameters vector variant wrapped flags) ≡ vector
gcm_vector_of law vector variant wrapped flags least most = rw (gcm_vector law vector variant wrapped flags least most) refl

abbrev pub OneOrThree : ℕ → Type 0
OneOrThree variant = (variant ≡ 1) ⊎ (variant ≡ 3)

gcm_variant_fits : NumbersAgain → (vector : List ℕ) (variant : ℕ) (wrapped : Option (List ℕ)) (flags : ℕ) → OneOrThree variant → is_malformed (confidentiality.variant_given (gcm_parameters vector variant wrapped flags)) ≡ false
gcm_variant_fits law vector variant wrapped flags (inl e) = rw (e, gcm_variant_at vector 1 wrapped flags, law 1 (lit< tt)) refl
gcm_variant_fits law vector variant wrapped flags (inr e) = rw (e, gcm_variant_at vector 3 wrapped flags, law 3 (lit< tt)) refl

pub gcm_words : NumbersAgain → (vector : List ℕ) (variant : ℕ) (wrapped : Option (List ℕ)) (flags : ℕ) → OneOrThree variant → confidentiality.words_of (confidentiality.variant_of (gcm_parameters vector variant wrapped flags)) ≡ words_of variant
gcm_words law vector variant wrapped flags (inl e) = rw (e, gcm_variant_at vector 1 wrapped flags, law 1 (lit< tt)) refl
gcm_words law vector variant wrapped flags (inr e) = rw (e, gcm_variant_at vector 3 wrapped flags, law 3 (lit< tt)) refl

pub gcm_well_formed : NumbersAgain → StringsAgain → (vector : List ℕ) (variant : ℕ) (wrapped : Option (List ℕ)) (flags : ℕ) → 8 ≤ length vector → length vector ≤ 16 → OneOrThree variant → Fits wrapped → flags < 8 → confidentiality.bad_parameters (gcm_parameters vector variant wrapped flags) ≡ false
gcm_well_formed numbers texts vector variant wrapped flags least most one fits small =
    rw (gcm_vector texts vector variant wrapped flags least most, gcm_variant_fits numbers vector variant wrapped flags one, gcm_wrapped texts vector variant wrapped flags fits, gcm_flags numbers vector variant wrapped flags small) refl
