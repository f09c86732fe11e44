use Rattle.std.specs.Prelude.{ℕ, List, [], ◌++◌, Option, Some, None}
use Rattle.cbor_profile.specs.Put.{uint}
use Rattle.bp_primary.specs.declared.primary.Piece.{Piece}

-- a fragment's offset and the total length (RFC 9171, section 4.3.1), where there is a fragment
unfoldable pub fragment_items : Option Piece → List ℕ
fragment_items None = []
fragment_items (Some piece) = uint piece.offset ++ uint piece.total

-- how many items these are
abbrev pub fragment_count : Option Piece → ℕ
fragment_count None = 0
fragment_count (Some piece) = 2
