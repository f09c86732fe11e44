-- What waits to be taken, when more is read, and what is made of it.
use Rattle.std.specs.Prelude.{◌≡◌, ℕ, ◌+◌, ◌^◌, ◌<◌, List, ◌++◌, length, Option, Some, None, Result, Ok, Err, ◌==◌, if◌then◌else◌}
use Rattle.cbor_profile.specs.declared.fault.Reason.TheVariants.{Truncated}
use Rattle.bp_outside.specs.Outside.{Taken}
use Rattle.cbor_profile.specs.declared.fault.SpellError.{SpellError}
use Rattle.cbor_profile.specs.declared.fault.SpellError.TheVariants as errors
use Rattle.bp_bundle.specs.Shape.{Contents}
use Rattle.bp_bundle.specs.Spelling.{IsBundle, spelling}
use Rattle.bp_bundle.specs.Taking.{Took}
use Rattle.bp_bundle.specs.declared.reader.Reader.{Reader}
use Rattle.bp_bundle.specs.BackToBack.{Waiting, moved}
use Rattle.bp_bundle.specs.declared.bundle.Bundle.{Bundle}
use Rattle.bp_bundle.specs.declared.whole_input.InputFault.{InputFault}
use Rattle.bp_bundle.specs.declared.whole_input.InputFault.TheVariants as inputs

-- Bytes were read from the front of the input, and wait behind those that waited.
pub record Fills (before : Waiting) (left : Option (List ℕ)) (after : Waiting) (now : Option (List ℕ)) : Type 0 where
  pub read : List ℕ
  pub given : Taken left read now
  pub held : after.held ≡ before.held ++ read
  pub counted : after.taken ≡ before.taken + length read

-- the fault of a bundle that begins at this place
abbrev pub fault_there : ℕ → SpellError → InputFault
fault_there place (errors.Fault fault) = inputs.Fault (moved place fault)
fault_there place errors.NoMemory = inputs.NoMemory

-- its place is a number of 64 bits
abbrev pub FitsThere : ℕ → SpellError → Type 0
FitsThere place (errors.Fault fault) = place + fault.place < 2 ^ 64
FitsThere place errors.NoMemory = Unit {0}

-- no bundle after no byte, else a bundle that ends too early
abbrev pub over_there : ℕ → ℕ → Result (Option Bundle) InputFault
over_there place count = if count == 0 then Ok None else Err (inputs.Fault (record { place = place + count; reason = Truncated }))

-- the reader has taken the spelling of a bundle, and no more
abbrev pub HasWhole : Reader → Type 0
HasWhole reader = (bundle : Contents) × IsBundle bundle × Took reader (spelling bundle)
