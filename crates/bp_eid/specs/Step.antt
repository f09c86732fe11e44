-- What a step of reading returned.
use Rattle.std.specs.Prelude.{◌≡◌, ℕ, List, Result, Ok, Err, IsOkAnd}
use Rattle.std.specs.Borrow.{Bor}
use Rattle.bp_eid.specs.EndpointId.{HasText}
use Rattle.bp_eid.specs.declared.stop.Stop.{Stop}
use Rattle.bp_eid.specs.declared.stop.ReadError.{ReadError}
use Rattle.bp_eid.specs.declared.stop.ReadError.TheVariants as errors
use Rattle.bp_eid.specs.declared.eid.Eid.{Eid}
use Rattle.bp_eid.specs.declared.eid.Eid.TheVariants as ids
use Rattle.bp_eid.specs.declared.reading.Found.{Found}
use Rattle.bp_eid.specs.declared.reading.Found.TheVariants as found

-- It is the id that reading gives, or where reading stops. Memory runs out only where the id has a text.
abbrev pub GivesId : Result (Eid × Bor (List ℕ)) ReadError → Result (Eid × List ℕ) Stop → Type 0
GivesId (Ok x) read = read ≡ Ok (x.0, x.1.now)
GivesId (Err errors.NoMemory) read = IsOkAnd read (λ x. HasText x.0)
GivesId (Err (errors.Stop stop)) read = read ≡ Err stop

-- the id, with the text that it points to
abbrev pub eid_of : Found → Eid
eid_of found.Null = ids.Null
eid_of (found.Dtn text) = ids.Dtn text.now
eid_of (found.Ipn node service) = ids.Ipn node service
