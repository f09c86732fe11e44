-- Bytes of which spans are known.
use Rattle.std.specs.Prelude.{ℕ, ◌≤◌, Bool, ◌&&◌, nat_le, nat_lt, if◌then◌else◌, List, length, map, Option, None}
use Rattle.std.specs.List.{All, list_any, slice_get}
use Rattle.bp_fragments.specs.Cut.{below}
use Rattle.bp_fragments.specs.declared.span.Span.{Span}

abbrev pub is_in : Span → ℕ → Bool
is_in span place = nat_le span.from place && nat_lt place span.to

abbrev pub is_covered : List Span → ℕ → Bool
is_covered spans place = list_any (λ span. is_in span place) spans

-- the byte at a place that a span covers
abbrev pub seen_at : List Span → List ℕ → ℕ → Option ℕ
seen_at spans bytes place = if is_covered spans place then slice_get bytes place else None

unfoldable pub seen : List Span → List ℕ → List (Option ℕ)
seen spans bytes = map (seen_at spans bytes) (below (length bytes))

-- no span ends behind the bytes
abbrev pub AreWithin : List Span → ℕ → Type 0
AreWithin spans len = All (λ span. span.to ≤ len) spans
