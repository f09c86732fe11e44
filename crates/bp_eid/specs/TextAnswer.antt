-- What the text of an endpoint id, or a part of it, stands for.
use Rattle.std.specs.Prelude.{◌≡◌, ℕ, ◌^◌, ◌<◌, ◌⊎◌, List, ◌∷◌, ◌++◌, length, slice_index, Option, Some, None}
use Rattle.std.specs.Fmt.{decimal}
use Rattle.bp_eid.specs.declared.eid.Eid.{Eid}
use Rattle.bp_eid.specs.EndpointId.{text_form, Fits, HasText}

-- A plus stands at the front, or a zero before more.
abbrev pub IsPadded : List ℕ → Type 0
IsPadded text = (slice_index text 0 ≡ 43) ⊎ ((slice_index text 0 ≡ 48) × (1 < length text))

-- the number that has these digits, if one has them
abbrev pub IsNumberOf : List ℕ → Option ℕ → Type 0
IsNumberOf digits None = (n : ℕ) → n < 2 ^ 64 → digits ≡ decimal n → ⊥
IsNumberOf digits (Some n) = (n < 2 ^ 64) × (digits ≡ decimal n)

-- the two numbers with a dot between them, if there are two
abbrev pub AreNumbersOf : List ℕ → Option (ℕ × ℕ) → Type 0
AreNumbersOf text None = (node service : ℕ) → node < 2 ^ 64 → service < 2 ^ 64 → text ≡ decimal node ++ (46 ∷ decimal service) → ⊥
AreNumbersOf text (Some x) = (x.0 < 2 ^ 64) × (x.1 < 2 ^ 64) × (text ≡ decimal x.0 ++ (46 ∷ decimal x.1))

-- the id whose text it is, if it is that of one
abbrev pub IsIdOf : List ℕ → Option Eid → Type 0
IsIdOf text None = (eid : Eid) → Fits eid → text ≡ text_form eid → ⊥
IsIdOf text (Some eid) = Fits eid × (text ≡ text_form eid)

-- it is the text of an id that has one of its own
abbrev pub IsIdText : List ℕ → Type 0
IsIdText text = (eid : Eid) × HasText eid × Fits eid × (text ≡ text_form eid)
