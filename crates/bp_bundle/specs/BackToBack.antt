-- Bundles back to back in one input.
use Rattle.std.specs.Prelude.{◌≡◌, ℕ, ◌+◌, ◌-◌, ◌≤◌, List, [], ◌∷◌, ◌++◌, length, Option, Some, None, Result, Ok, Err, IfSome}
use Rattle.bp_outside.specs.Outside.{Taken}
use Rattle.cbor_profile.specs.declared.TheConstants.{BUNDLE_LIMIT}
use Rattle.cbor_profile.specs.declared.fault.Fault.{Fault}
use Rattle.bp_bundle.specs.Shape.{Contents}
use Rattle.bp_bundle.specs.Spelling.{IsBundle, spelling}
use Rattle.bp_bundle.specs.Tokens.{Cursor}
use Rattle.bp_bundle.specs.FirstFault.{read_bundle}
use Rattle.bp_bundle.specs.WholeInput.{IsInput}
use Rattle.bp_bundle.specs.declared.bundle.Bundle.{Bundle}
use Rattle.bp_bundle.specs.declared.whole_input.InputFault.{InputFault}
use Rattle.bp_bundle.specs.declared.whole_input.InputFault.TheVariants as inputs

-- ---- what the bytes give

-- A fault of a bundle that begins at this place of the input.
abbrev pub moved : ℕ → Fault → Fault
moved place fault = record { place = place + fault.place; reason = fault.reason }

abbrev pub bundle_and_rest : ℕ → Result (Contents × Cursor) Fault → Result (Option (Contents × List ℕ)) Fault
bundle_and_rest place (Ok x) = Ok (Some (x.0, x.1.rest))
bundle_and_rest place (Err fault) = Err (moved place fault)

-- The next bundle of these bytes and the bytes after it; none where there is no byte; else the first fault. The bytes stand
-- at this place of the input, from which its faults are counted; the rules count from the bundle's own first byte.
abbrev pub next_of : ℕ → List ℕ → Result (Option (Contents × List ℕ)) Fault
next_of place [] = Ok None
next_of place (byte ∷ bytes) = bundle_and_rest place (read_bundle (byte ∷ bytes))

-- ---- what is read

-- The bytes that were read from the input and follow the last bundle, and how many were read in all.
pub record Waiting : Type 0 where
  pub held : List ℕ
  pub taken : ℕ

-- where the next bundle begins, counted from the start of the input
abbrev pub place : Waiting → ℕ
place waiting = waiting.taken - length waiting.held

-- What was answered, after these bytes were read: the bytes that were held and these are the next bundle's spelling and what
-- is held now; or there was no byte; or these and what is left, any bytes where it isn't told, have this first fault.
abbrev pub Answers : Waiting → List ℕ → Waiting → Option (List ℕ) → Result (Option Bundle) InputFault → Type 0
Answers before read after left (Ok (Some bundle)) = IsBundle bundle × (before.held ++ read ≡ spelling bundle ++ after.held)
Answers before read after left (Ok None) = (before.held ++ read ≡ []) × (after.held ≡ []) × IfSome left (λ rest. rest ≡ [])
Answers before read after left (Err (inputs.Fault fault)) =
    (more : List ℕ) × IsInput left more × (next_of (place before) (before.held ++ read ++ more) ≡ Err fault)
Answers before read after left (Err inputs.Failed) = Unit {0}
Answers before read after left (Err inputs.NoMemory) = Unit {0}

-- the most bytes that are read for one bundle: fewer than 8 more than a bundle can have, and a piece
abbrev pub most_for_one : ℕ
most_for_one = BUNDLE_LIMIT + 65543

-- Bytes were read from the front of the input, and this was answered.
pub record Reads (before : Waiting) (left : Option (List ℕ)) (after : Waiting) (now : Option (List ℕ)) (result : Result (Option Bundle) InputFault) : Type 0 where
  pub read : List ℕ
  pub given : Taken left read now
  pub counted : after.taken ≡ before.taken + length read
  pub few : length read ≤ most_for_one
  pub answer : Answers before read after now result

-- Where the reading of several bundles stands: what waits, and the error that was met.
pub record Reading : Type 0 where
  pub held : List ℕ
  pub taken : ℕ
  pub met : Option InputFault

abbrev pub waiting : Reading → Waiting
waiting reading = record { held = reading.held; taken = reading.taken }
