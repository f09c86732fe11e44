-- What every item of a plan keeps. Plans are this project's own; the variants and scopes are those of RFC 9173, sections 3.3
-- and 4.3.
use Rattle.std.specs.Prelude.{ℕ, ◌==◌, ◌&&◌, ◌||◌, Bool, true, nat_le, List, length, Option, Some, None}
use Rattle.std.specs.List.{list_all}
use Rattle.bp_text.specs.Shape.{is_name, are_distinct}
use Rattle.bpsec_plan.specs.declared.item.Cover.{Cover}
use Rattle.bpsec_plan.specs.declared.item.Item.{Item}
use Rattle.bpsec_plan.specs.declared.item.Item.TheVariants.{Bib, Bcb, Split}

-- 1 to 64 numbers, none twice
abbrev pub are_targets : List ℕ → Bool
are_targets targets = nat_le 1 (length targets) && (nat_le (length targets) 64 && are_distinct targets)

abbrev pub is_name_if_any : Option (List ℕ) → Bool
is_name_if_any None = true
is_name_if_any (Some name) = is_name name

-- keys under names, and a scope of 16 bits
abbrev pub is_cover : Cover → Bool
is_cover cover =
    are_targets cover.targets
    && (is_name cover.key && (is_name_if_any cover.wrapped_with && nat_le cover.scope 65535))

-- HMAC with SHA-256, SHA-384 or SHA-512: RFC 9173, section 3.3.1
abbrev pub is_integrity_variant : ℕ → Bool
is_integrity_variant v = v == 5 || (v == 6 || v == 7)

-- AES-GCM with a key of 128 or 256 bits: RFC 9173, section 4.3.2
abbrev pub is_cipher_variant : ℕ → Bool
is_cipher_variant v = v == 1 || v == 3

-- an initialisation vector of 8 to 16 bytes: RFC 9173, section 4.3.1
abbrev pub is_item : Item → Bool
is_item (Bib cover) = is_cover cover && is_integrity_variant cover.variant
is_item (Bcb cover iv shared tag) =
    is_cover cover && (is_cipher_variant cover.variant && (nat_le 8 (length iv) && nat_le (length iv) 16))
is_item (Split split) = are_targets split.targets

-- 1 to 62 items
unfoldable pub is_plan : List Item → Bool
is_plan items = nat_le 1 (length items) && (nat_le (length items) 62 && list_all is_item items)
