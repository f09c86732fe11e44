-- What fragments tell of the whole payload.
use Rattle.std.specs.Prelude.{ℕ, ◌-◌, nat_lt, if◌then◌else◌, List, [], ◌∷◌, map, Option, None}
use Rattle.std.specs.List.{slice_get}
use Rattle.std.specs.Option.{option_or}
use Rattle.bp_bundle.specs.Shape.{Contents, payload}
use Rattle.bp_fragments.specs.Fragment.{offset_of, total_of}
use Rattle.bp_fragments.specs.Cut.{below}

-- the byte that a fragment has at a place of the whole payload, if it covers the place
abbrev pub byte_of : Contents → ℕ → Option ℕ
byte_of piece place = if nat_lt place (offset_of piece) then None else slice_get (payload piece) (place - offset_of piece)

-- The byte of a fragment that covers the place: the first of the list, but fragments that agree all have the same.
abbrev pub byte_at : List Contents → ℕ → Option ℕ
byte_at [] place = None
byte_at (piece ∷ more) place = option_or (byte_of piece place) (byte_at more place)

-- how many bytes the whole has, as the first fragment says, and all others where they agree
abbrev pub whole_length : List Contents → ℕ
whole_length [] = 0
whole_length (piece ∷ more) = total_of piece

-- the whole payload as far as it is known
unfoldable pub known : List Contents → List (Option ℕ)
known pieces = map (byte_at pieces) (below (whole_length pieces))
