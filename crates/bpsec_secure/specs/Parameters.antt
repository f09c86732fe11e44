-- The parameters of the new blocks: RFC 9173, sections 3.3 and 4.3. Each list is in the order of the ids, with the variant and
-- the scope flags always there.
use Rattle.std.specs.Prelude.{ℕ, ◌/◌, List, [], ◌∷◌, ◌++◌, length, Option, Some, None}
use Rattle.key_wrap.specs.KeyWrap.{wrap}
use Rattle.bpsec_asb.specs.declared.asb.Pair.{Pair}
use Rattle.bpsec_policy.specs.declared.ring.NamedKey.{NamedKey}
use Rattle.bpsec_plan.specs.declared.item.Cover.{Cover}
use Rattle.bpsec_facts.specs.Refusal.{key_named}
use Rattle.bpsec_facts.specs.Left.{number_pair, bytes_pair, key_of_cover, flags_of}

-- the key, wrapped under the key of this name (RFC 3394, section 2.2.1): AES with as many words as that key has
unfoldable pub wrapped_under : List ℕ → List ℕ → List ℕ
wrapped_under wrapping key = wrap (length wrapping / 4) wrapping key

abbrev pub wrapped_by : List NamedKey → List ℕ → Option (List ℕ) → Option (List ℕ)
wrapped_by ring key None = None
wrapped_by ring key (Some name) = Some (wrapped_under (key_named ring name) key)

-- the working key wrapped, where the item says under which key
abbrev pub wrapped_key : List NamedKey → Cover → Option (List ℕ)
wrapped_key ring cover = wrapped_by ring (key_of_cover ring cover) cover.wrapped_with

-- the parameter of this id that holds it
abbrev pub wrapped_pair : ℕ → Option (List ℕ) → List Pair
wrapped_pair id None = []
wrapped_pair id (Some wrapped) = bytes_pair id wrapped ∷ []

-- BIB-HMAC-SHA2: SHA variant, wrapped key, integrity scope flags
unfoldable pub hmac_parameters : ℕ → Option (List ℕ) → ℕ → List Pair
hmac_parameters variant wrapped flags = number_pair 1 variant ∷ (wrapped_pair 2 wrapped ++ number_pair 3 flags ∷ [])

abbrev pub integrity_parameters : List NamedKey → Cover → List Pair
integrity_parameters ring cover = hmac_parameters cover.variant (wrapped_key ring cover) (flags_of cover)

-- BCB-AES-GCM: initialisation vector, AES variant, wrapped key, AAD scope flags
unfoldable pub gcm_parameters : List ℕ → ℕ → Option (List ℕ) → ℕ → List Pair
gcm_parameters vector variant wrapped flags =
    bytes_pair 1 vector ∷ number_pair 2 variant ∷ (wrapped_pair 3 wrapped ++ number_pair 4 flags ∷ [])

abbrev pub cipher_parameters : List NamedKey → Cover → List ℕ → List Pair
cipher_parameters ring cover vector = gcm_parameters vector cover.variant (wrapped_key ring cover) (flags_of cover)

-- The key that the context is handed: the one that wraps, where there is one, else the working key (RFC 9173, sections 3.3.2
-- and 4.3.3).
abbrev pub outer_key_by : List NamedKey → List ℕ → Option (List ℕ) → List ℕ
outer_key_by ring key None = key
outer_key_by ring key (Some name) = key_named ring name

abbrev pub outer_key : List NamedKey → Cover → List ℕ
outer_key ring cover = outer_key_by ring (key_of_cover ring cover) cover.wrapped_with
