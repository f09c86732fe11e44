-- What reading one bundle and the end of an input gives.
use Rattle.std.specs.Prelude.{◌≡◌, ℕ, ◌+◌, ◌<◌, ◌≤◌, Bool, true, false, List, [], ◌++◌, length, Option, Result, Ok, Err, IfSome}
use Rattle.bp_outside.specs.Outside.{Taken}
use Rattle.cbor_profile.specs.declared.TheConstants.{BUNDLE_LIMIT}
use Rattle.cbor_profile.specs.declared.fault.Fault.{Fault}
use Rattle.cbor_profile.specs.declared.fault.Reason.TheVariants.{Trailing}
use Rattle.cbor_profile.specs.declared.fault.SpellError.{SpellError}
use Rattle.cbor_profile.specs.declared.fault.SpellError.TheVariants as errors
use Rattle.bp_bundle.specs.Shape.{Contents}
use Rattle.bp_bundle.specs.Spelling.{IsBundle, spelling}
use Rattle.bp_bundle.specs.FirstFault.{read_only}
use Rattle.bp_bundle.specs.Taking.{Took}
use Rattle.bp_bundle.specs.declared.bundle.Bundle.{Bundle}
use Rattle.bp_bundle.specs.declared.reader.Reader.{Reader}
use Rattle.bp_bundle.specs.declared.whole_input.InputFault.{InputFault}
use Rattle.bp_bundle.specs.declared.whole_input.InputFault.TheVariants as inputs
use Rattle.bp_bundle.specs.declared.whole_input.Step.{Step}
use Rattle.bp_bundle.specs.declared.whole_input.Step.TheVariants as steps

-- these are the bytes of the input, where it tells them, else any
abbrev pub IsInput : Option (List ℕ) → List ℕ → Type 0
IsInput input bytes = IfSome input (λ told. told ≡ bytes)

abbrev pub trailing_at : Contents → Fault
trailing_at bundle = record { place = length (spelling bundle); reason = Trailing }

abbrev pub fault_of_error : SpellError → InputFault
fault_of_error (errors.Fault fault) = inputs.Fault fault
fault_of_error errors.NoMemory = inputs.NoMemory

-- the input gives this bundle or this fault
abbrev pub Answered : Option (List ℕ) → Result Contents InputFault → Type 0
Answered input (Ok bundle) = (bytes : List ℕ) × IsInput input bytes × (read_only bytes ≡ Ok bundle)
Answered input (Err (inputs.Fault fault)) = (bytes : List ℕ) × IsInput input bytes × (read_only bytes ≡ Err fault)
Answered input (Err inputs.Failed) = Unit {0}
Answered input (Err inputs.NoMemory) = Unit {0}

-- The reader has taken what was taken from the input, and the bundle hasn't ended.
pub record HasTaken (before now : Option (List ℕ)) (reader : Reader) : Type 0 where
  pub taken : List ℕ
  pub took : Took reader taken
  pub given : Taken before taken now
  pub small : length taken < BUNDLE_LIMIT + 8

-- how many bytes the reader has taken
abbrev pub count : Reader → ℕ
count reader = reader.place + length reader.pending

-- The bundle has ended in what was taken from the input.
pub record HasEnded (before now : Option (List ℕ)) (reader : Reader) (all : Bool) : Type 0 where
  pub bundle : Contents
  pub rest : List ℕ
  pub is : IsBundle bundle
  pub given : Taken before (spelling bundle ++ rest) now
  pub small : length (spelling bundle ++ rest) ≤ BUNDLE_LIMIT + 65544
  pub took : Took reader (spelling bundle)
  pub nothing_more : all ≡ true → rest ≡ []
  pub something_more : all ≡ false → 0 < length rest

-- what one more piece came to
abbrev pub Stepped : Option (List ℕ) → Option (List ℕ) → Reader → Result Step InputFault → Type 0
Stepped before now reader (Ok steps.More) = HasTaken before now reader
Stepped before now reader (Ok steps.Over) = HasTaken before now reader × IfSome now (λ rest. rest ≡ [])
Stepped before now reader (Ok (steps.Done all)) = HasEnded before now reader all
Stepped before now reader (Err fault) = Answered before (Err fault)

-- at most this many bytes were taken, from the front of the input, where it tells them
abbrev pub TakesAtMost : ℕ → Option (List ℕ) → Option (List ℕ) → Type 0
TakesAtMost most before now = (taken : List ℕ) × (length taken ≤ most) × Taken before taken now

-- the most bytes that are taken for one bundle and the end: fewer than 8 more than a bundle can have, a piece, and a byte
abbrev pub most_taken : ℕ
most_taken = BUNDLE_LIMIT + 65545
