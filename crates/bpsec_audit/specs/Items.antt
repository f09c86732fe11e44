-- What is told of the items of a plan, each by its index in decimal.
use Rattle.std.specs.Prelude.{ℕ, ◌==◌, ◌%◌, ◌&&◌, ◌||◌, Bool, false, not, nat_lt, List, [], ◌++◌, length, Option, Some, None}
use Rattle.std.specs.List.{list_any}
use Rattle.std.specs.Str.{bytes_eq}
use Rattle.std.specs.Fmt.{decimal}
use Rattle.bpsec_policy.specs.declared.ring.NamedKey.{NamedKey}
use Rattle.bpsec_plan.specs.declared.item.Cover.{Cover}
use Rattle.bpsec_plan.specs.declared.item.Item.{Item}
use Rattle.bpsec_plan.specs.declared.item.Item.TheVariants.{Bib, Bcb, Split}
use Rattle.bpsec_audit.specs.declared.line.Finding.TheVariants.{SharedVector, UnboundItem, VectorLength, UnknownKeyOfItem}
use Rattle.bpsec_audit.specs.Lines.{line, line_if}
use Rattle.bpsec_audit.specs.Rules.{unknown_lines}

-- the scope lacks the primary block (RFC 9173, sections 3.3.3 and 4.3.4), so that the targets can be moved into another bundle
abbrev pub lacks_primary : Cover → Bool
lacks_primary cover = cover.scope % 2 == 0

abbrev pub is_primary_alone : List ℕ → Bool
is_primary_alone targets = length targets == 1 && list_any (λ target. target == 0) targets

-- the key, and then the key that wraps it
unfoldable pub key_names_lines : List NamedKey → List ℕ → Cover → List (List ℕ)
key_names_lines ring index cover =
    unknown_lines UnknownKeyOfItem ring index (Some cover.key)
    ++ unknown_lines UnknownKeyOfItem ring index cover.wrapped_with

unfoldable pub integrity_lines : List NamedKey → List ℕ → Cover → List (List ℕ)
integrity_lines ring index cover =
    line_if (lacks_primary cover && not (is_primary_alone cover.targets)) (line UnboundItem index)
    ++ key_names_lines ring index cover

-- several targets share one vector; a vector of 12 bytes is the one that RFC 9173, section 4.3.1, recommends
unfoldable pub cipher_lines : List NamedKey → List ℕ → Cover → List ℕ → List (List ℕ)
cipher_lines ring index cover iv =
    line_if (nat_lt 1 (length cover.targets)) (line SharedVector index)
    ++ (line_if (lacks_primary cover) (line UnboundItem index)
    ++ (line_if (not (length iv == 12)) (line VectorLength index)
    ++ key_names_lines ring index cover))

abbrev pub lines_at : List NamedKey → List ℕ → Item → List (List ℕ)
lines_at ring index (Bib cover) = integrity_lines ring index cover
lines_at ring index (Bcb cover iv shared joined) = cipher_lines ring index cover iv
lines_at ring index (Split split) = []

-- an item's index is the number of those before it
abbrev pub item_lines : List NamedKey → List Item → Item → List (List ℕ)
item_lines ring before item = lines_at ring (decimal (length before)) item

-- ---- which keys items name

abbrev pub is_key_named : Option (List ℕ) → List ℕ → Bool
is_key_named None name = false
is_key_named (Some key) name = bytes_eq key name

abbrev pub cover_names : Cover → List ℕ → Bool
cover_names cover name = bytes_eq cover.key name || is_key_named cover.wrapped_with name

abbrev pub item_names : List ℕ → Item → Bool
item_names name (Bib cover) = cover_names cover name
item_names name (Bcb cover iv shared joined) = cover_names cover name
item_names name (Split split) = false
