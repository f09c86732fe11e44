-- What a reader has taken, and what it answers to one more piece.
use Rattle.std.specs.Prelude.{◌≡◌, ◌≢◌, ℕ, ◌+◌, ◌-◌, ◌^◌, ◌<◌, ◌≤◌, min, Bool, true, false, List, [], ◌++◌, length, take, drop, slice_index, Option, Some, None, Result, Ok, Err}
use Rattle.cbor_profile.specs.declared.fault.Reason.TheVariants.{Truncated}
use Rattle.cbor_profile.specs.declared.fault.Fault.{Fault}
use Rattle.cbor_profile.specs.declared.fault.SpellError.{SpellError}
use Rattle.cbor_profile.specs.declared.fault.SpellError.TheVariants as errors
use Rattle.bp_bundle.specs.Shape.{Contents}
use Rattle.bp_bundle.specs.Spelling.{IsBundle, spelling}
use Rattle.bp_bundle.specs.Tokens.{Cursor}
use Rattle.bp_bundle.specs.FirstFault.{read_bundle}
use Rattle.bp_bundle.specs.Machine.{resume, Waits}
use Rattle.bp_bundle.specs.declared.bundle.Bundle.{Bundle}
use Rattle.bp_bundle.specs.declared.stage.Stage.{Stage}
use Rattle.bp_bundle.specs.declared.stage.Stage.TheVariants as stages
use Rattle.bp_bundle.specs.declared.stage.Outcome.{Outcome}
use Rattle.bp_bundle.specs.declared.stage.Outcome.TheVariants as outcomes
use Rattle.bp_bundle.specs.declared.reader.Fed.{Fed}
use Rattle.bp_bundle.specs.declared.reader.Reader.{Reader}

-- the error that the reader has met
abbrev pub met : Reader → Option SpellError
met reader = reader.met

-- nothing is pending after the end
abbrev pub Kept : Stage → List ℕ → Type 0
Kept (stages.Done begun) pending = pending ≡ []
Kept stage pending = Unit {0}

-- The reader has met no error, and has taken just these bytes: what it reads from here on is what is read from them on.
pub record Took (reader : Reader) (taken : List ℕ) : Type 0 where
  pub none : reader.met ≡ None
  pub bytes : (i : ℕ) → slice_index taken i < 256
  pub place : reader.place + length reader.pending ≡ length taken
  pub reads : (more : List ℕ) → read_bundle (taken ++ more) ≡ resume reader.stage (record { at = reader.place; rest = reader.pending ++ more })
  pub waits : Waits reader.stage (record { at = reader.place; rest = reader.pending })
  pub kept : Kept reader.stage reader.pending

-- bytes that end too early, all of which are these
abbrev pub early : List ℕ → Fault
early bytes = record { place = length bytes; reason = Truncated }

-- The bytes begin with the spelling of a bundle, which is taken up to its end.
pub record Ends (taken piece : List ℕ) (reader : Reader) (count : ℕ) : Type 0 where
  pub bundle : Contents
  pub rest : List ℕ
  pub is : IsBundle bundle
  pub spells : taken ++ piece ≡ spelling bundle ++ rest
  pub within : count + length rest ≡ length piece
  pub took : Took reader (taken ++ take count piece)

-- The bytes are the beginning of a bundle, and all are taken.
pub record GoesOn (taken piece : List ℕ) (reader : Reader) (count : ℕ) : Type 0 where
  pub early : read_bundle (taken ++ piece) ≡ Err (early (taken ++ piece))
  pub all : count ≡ length piece
  pub took : Took reader (taken ++ piece)

abbrev pub Answers : List ℕ → List ℕ → Reader → ℕ → Bool → Type 0
Answers taken piece reader count true = Ends taken piece reader count
Answers taken piece reader count false = GoesOn taken piece reader count

-- it is the first fault, and another than that the bytes end too early
abbrev pub Faults : List ℕ → SpellError → Type 0
Faults bytes errors.NoMemory = Unit {0}
Faults bytes (errors.Fault fault) = (read_bundle bytes ≡ Err fault) × (fault.reason ≢ Truncated)

-- what a reader that has taken some bytes answers to one more piece
abbrev pub Feeds : List ℕ → List ℕ → Reader → Result Fed SpellError → Type 0
Feeds taken piece reader (Ok fed) = Answers taken piece reader fed.taken fed.done
Feeds taken piece reader (Err error) = Faults (taken ++ piece) error × (reader.met ≡ Some error)

-- what the end of all bytes gives
abbrev pub Finishes : List ℕ → Result Bundle SpellError → Type 0
Finishes taken (Ok bundle) = taken ≡ spelling bundle
Finishes taken (Err error) = (read_bundle taken ≡ Err (early taken)) × (error ≡ errors.Fault (early taken))

-- where the reader stands after all steps over some bytes
abbrev pub Settles : Outcome → ℕ → Reader → Reader → Result Fed SpellError → Type 0
Settles (outcomes.Stop error) given old new result = (result ≡ Err error) × (new.met ≡ Some error)
Settles (outcomes.End begun then) given old new result =
    (result ≡ Ok (record { taken = given - length then.rest.now; done = true })) × (new.met ≡ old.met) × (new.stage ≡ stages.Done begun) × (new.place ≡ min then.place (2 ^ 62)) × (new.pending ≡ [])
Settles (outcomes.Wait stage then) given old new (Ok fed) =
    (fed ≡ record { taken = given; done = false }) × (new.met ≡ old.met) × (new.stage ≡ stage) × (new.place ≡ min then.place (2 ^ 62)) × (new.pending ≡ then.rest.now)
Settles (outcomes.Wait stage then) given old new (Err error) = (error ≡ errors.NoMemory) × (new.met ≡ Some errors.NoMemory)

-- what is made of the state at the end of all bytes
abbrev pub Concludes : Stage → ℕ → Result Bundle SpellError → Type 0
Concludes (stages.Done begun) place (Ok bundle) = bundle ≡ record { primary = begun.primary; blocks = begun.blocks }
Concludes (stages.Done begun) place (Err error) = IsBundle (record { primary = begun.primary; blocks = begun.blocks }) → ⊥
Concludes stage place result = result ≡ Err (errors.Fault (record { place = place; reason = Truncated }))
