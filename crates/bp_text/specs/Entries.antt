-- Lists of entries.
use Rattle.std.specs.Prelude.{ℕ, ◌+◌, Bool, false, not, List, [], ◌∷◌, codes, Option, Some, None, Result, Ok}
use Rattle.cbor_profile.specs.Step.{◌>>=◌}
use Rattle.serde_json.specs.Data.{Data}
use Rattle.bp_text.specs.declared.fault.TextReason.{TextReason}
use Rattle.bp_text.specs.declared.fault.TextReason.TheVariants.{RepeatedName}
use Rattle.bp_text.specs.declared.fault.TextFault.{TextFault}
use Rattle.bp_text.specs.Fault.{unless, at_entry}
use Rattle.bp_text.specs.Tree.{text_at}
use Rattle.bp_text.specs.Shape.{is_listed}

-- the name of an entry that has one
abbrev pub name_of : Data → Option (List ℕ)
name_of d = text_at (codes "name") d

abbrev pub is_taken : List (List ℕ) → Option (List ℕ) → Bool
is_taken taken None = false
is_taken taken (Some name) = is_listed taken name

abbrev pub taking : Option (List ℕ) → List (List ℕ) → List (List ℕ)
taking None taken = taken
taking (Some name) taken = name ∷ taken

-- the names taken after these entries
abbrev pub taken_by : List (List ℕ) → List Data → List (List ℕ)
taken_by taken [] = taken
taken_by taken (d ∷ ds) = taken_by (taking (name_of d) taken) ds

-- the names of all entries
abbrev pub names_of : List Data → List (List ℕ)
names_of [] = []
names_of (d ∷ ds) = taking (name_of d) (names_of ds)

-- what an entry gives, and last that its name isn't taken
abbrev pub entry_at : {A : Type 0} → (Data → Result A TextReason) → List (List ℕ) → Data → Result A TextReason
entry_at read taken d = do
  x ← read d
  fresh ← unless (not (is_taken taken (name_of d))) RepeatedName
  Ok x

-- what the entries give, one after the other, or the first fault with the index of its entry; the first has this index
abbrev pub entries_at : {A : Type 0} → (Data → Result A TextReason) → ℕ → List (List ℕ) → List Data
    → Result (List A) TextFault
entries_at read index taken [] = Ok []
entries_at read index taken (d ∷ ds) = do
  x ← at_entry (Some index) (entry_at read taken d)
  xs ← entries_at read (index + 1) (taking (name_of d) taken) ds
  Ok (x ∷ xs)
