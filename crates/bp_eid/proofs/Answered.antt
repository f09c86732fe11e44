-- What is answered to a whole input stays when bytes are added.
use Rattle.std.proofs.Common.{◌≡◌, ◌≢◌, ℕ, ◌+◌, ◌-◌, List, ◌++◌, length, Result, Ok, Err, refl, sym, ◌∙◌, ap, arith}
use Rattle.std.proofs.lemmas.List.{length-append}
use Rattle.cbor_profile.specs.declared.fault.Reason.{Reason}
use Rattle.cbor_profile.specs.declared.fault.Reason.TheVariants as reasons
use Rattle.cbor_profile.specs.declared.fault.Fault.{Fault}
use Rattle.bp_eid.specs.declared.eid.Eid.{Eid}
use Rattle.bp_eid.specs.declared.reading.EidAt.{EidAt}
use Rattle.bp_eid.specs.declared.stop.Stop.{Stop}
use Rattle.bp_eid.specs.Reading.{id_at, read_id, answer, place_of, fault_of}
use Rattle.bp_eid.proofs.Growing.{id_stays, stop_stays}

-- a place but that of bytes that end too early counts from the front
pub place_stays : (given left more : ℕ) (reason : Reason) → reason ≢ reasons.Truncated → place_of (given + more) reason (left + more) ≡ place_of given reason left
place_stays given left more reasons.NotBundle other = omega arith
place_stays given left more reasons.Truncated other = absurd (other refl)
place_stays given left more reasons.NotShortest other = omega arith
place_stays given left more reasons.WrongKind other = omega arith
place_stays given left more reasons.WrongCount other = omega arith
place_stays given left more reasons.WrongValue other = omega arith
place_stays given left more reasons.WrongText other = omega arith
place_stays given left more reasons.WrongCheck other = omega arith
place_stays given left more reasons.TooLong other = omega arith
place_stays given left more reasons.Trailing other = omega arith
place_stays given left more reasons.Repeated other = omega arith

at_by : (bytes more : List ℕ) (at : EidAt) (read : Result (Eid × List ℕ) Stop) → id_at bytes ≡ read → answer bytes read ≡ Ok at → read_id (bytes ++ more) ≡ Ok at
unfolding read_id
at_by bytes more at (Ok x) is answered =
    let len : length (bytes ++ more) - length (x.1 ++ more) ≡ length bytes - length x.1 = omega (arith, length-append bytes more, length-append x.1 more) in
    rw (id_stays bytes more x is, len) answered
at_by bytes more at (Err stop) is answered = absurd cc

pub at_stays : (bytes more : List ℕ) (at : EidAt) → read_id bytes ≡ Ok at → read_id (bytes ++ more) ≡ Ok at
unfolding read_id
at_stays bytes more at answered = at_by bytes more at (id_at bytes) refl answered

fault_by : (bytes more : List ℕ) (fault : Fault) (read : Result (Eid × List ℕ) Stop) → id_at bytes ≡ read → answer bytes read ≡ Err fault → fault.reason ≢ reasons.Truncated → read_id (bytes ++ more) ≡ Err fault
unfolding read_id
fault_by bytes more fault (Ok x) is answered other = absurd cc
fault_by bytes more fault (Err stop) is answered other =
    let same : fault_of (length bytes) stop ≡ fault = cc in
    let reason : stop.reason ≢ reasons.Truncated = λ early. other (ap (λ (f : Fault). f.reason) (sym same) ∙ early) in
    let grown : length (bytes ++ more) ≡ length bytes + length more = length-append bytes more in
    let place : place_of (length (bytes ++ more)) stop.reason (stop.left + length more) ≡ place_of (length bytes) stop.reason stop.left = rw grown (place_stays (length bytes) stop.left (length more) stop.reason reason) in
    rw (stop_stays bytes more stop is reason, place) answered

pub fault_stays : (bytes more : List ℕ) (fault : Fault) → read_id bytes ≡ Err fault → fault.reason ≢ reasons.Truncated → read_id (bytes ++ more) ≡ Err fault
unfolding read_id
fault_stays bytes more fault answered other = fault_by bytes more fault (id_at bytes) refl answered other
