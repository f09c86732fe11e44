-- What a device does: its count of faults, the bytes that it gives or takes, the files that it holds.
use Rattle.std.specs.Prelude.{◌≡◌, ℕ, ◌+◌, ◌-◌, ◌^◌, ◌<◌, ◌≤◌, min, List, ◌++◌, length, take, Option, option_map, IfSome, IsSomeAnd}

-- A count of faults rose: it is greater now than before, or it stands at its last value.
abbrev pub Rose : ℕ → ℕ → Type 0
Rose before now = min (before + 1) (2 ^ 64 - 1) ≤ now

-- What was left is what was given, and then what is left now. What isn't told stays untold.
abbrev pub Taken : Option (List ℕ) → List ℕ → Option (List ℕ) → Type 0
Taken before given now = before ≡ option_map (λ rest. given ++ rest) now

-- What is written now is what was written before, and then this piece. What isn't told stays untold.
abbrev pub Appended : Option (List ℕ) → List ℕ → Option (List ℕ) → Type 0
Appended before piece now = now ≡ option_map (λ written. written ++ piece) before

-- The file of a name is held, where the files are told, and this is the whole of it.
abbrev pub IsWholeFile : Option (List ℕ → Option (List ℕ)) → List ℕ → List ℕ → Type 0
IsWholeFile files name bytes = IfSome files (λ held. IsSomeAnd (held name) (λ content. bytes ≡ content))

-- The file of a name is held, where the files are told, is longer than the limit, and these are its first bytes, one
-- more than the limit.
abbrev pub IsTooLong : Option (List ℕ → Option (List ℕ)) → List ℕ → ℕ → List ℕ → Type 0
IsTooLong files name limit bytes =
    IfSome files (λ held. IsSomeAnd (held name) (λ content. (limit < length content) × (bytes ≡ take (limit + 1) content)))
