-- Key rings.
use Rattle.std.specs.Prelude.{ℕ, ◌&&◌, nat_le, Bool, List, map, length, find, Option, option_map}
use Rattle.std.specs.List.{list_all}
use Rattle.std.specs.Str.{bytes_eq}
use Rattle.bp_text.specs.Shape.{is_name}
use Rattle.bpsec_policy.specs.declared.ring.NamedKey.{NamedKey}
use Rattle.bpsec_policy.specs.Names.{all_differ}

-- a key of 16 to 64 bytes under a name
abbrev pub is_named_key : NamedKey → Bool
is_named_key k = is_name k.name && (nat_le 16 (length k.key) && nat_le (length k.key) 64)

-- at most 256 keys, no two of one name
unfoldable pub is_ring : List NamedKey → Bool
is_ring keys = nat_le (length keys) 256 && (list_all is_named_key keys && all_differ (map (λ k. k.name) keys))

-- the key with this name
abbrev pub key_of : List NamedKey → List ℕ → Option (List ℕ)
key_of keys name = option_map (λ k. k.key) (find (λ k. bytes_eq k.name name) keys)
