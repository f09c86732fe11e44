-- The names that stood before.
use Rattle.std.specs.Prelude.{◌≡◌, ℕ, Bool, List}
use Rattle.std.specs.BTreeSet.{contains_text}
use Rattle.bp_text.specs.declared.names.Names.{Names}
use Rattle.bp_text.specs.Shape.{is_listed}

-- whether the name stood before
abbrev pub knows : Names → List ℕ → Bool
knows names name = contains_text names.seen name

-- these are the names that stood before
abbrev pub AreKnown : Names → List (List ℕ) → Type 0
AreKnown names taken = (name : List ℕ) → knows names name ≡ is_listed taken name
