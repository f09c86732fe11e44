-- Statuses: the number of each, and what it says.
use Rattle.std.specs.Prelude.{ℕ, Bool, true, false, IsTrue}
use Rattle.bpsec_answer.specs.declared.status.Status.{Status}
use Rattle.bpsec_answer.specs.declared.status.Status.TheVariants as statuses

-- the command was done, if only by discarding the bundle or by finding something; it was refused before a read of the input, or
-- after one; a device failed; no memory was left
pub data Outcome : Type 0 where
  Success : Outcome
  RefusedEarly : Outcome
  RefusedLate : Outcome
  Fault : Outcome
  Want : Outcome

-- a status's number, the exit status of the program, and its outcome
abbrev pub row_of : Status → ℕ × Outcome
row_of statuses.Done = (0, Success)
row_of statuses.Discarded = (1, Success)
row_of (statuses.Usage word) = (2, RefusedEarly)
row_of (statuses.BundleRefused refused) = (3, RefusedLate)
row_of (statuses.PolicyRefused fault) = (4, RefusedEarly)
row_of (statuses.RingRefused fault) = (5, RefusedEarly)
row_of (statuses.TextRefused fault) = (6, RefusedEarly)
row_of (statuses.ReadFault reading) = (7, Fault)
row_of (statuses.WriteFault writing) = (8, Fault)
row_of statuses.NoMemory = (9, Want)
row_of (statuses.PlanRefused reason at) = (10, RefusedLate)
row_of (statuses.PiecesRefused reason at) = (11, RefusedLate)
row_of statuses.Found = (16, Success)

abbrev pub code_of : Status → ℕ
code_of status = (row_of status).0

abbrev pub is_success : Outcome → Bool
is_success Success = true
is_success RefusedEarly = false
is_success RefusedLate = false
is_success Fault = false
is_success Want = false

abbrev pub is_refused_early : Outcome → Bool
is_refused_early Success = false
is_refused_early RefusedEarly = true
is_refused_early RefusedLate = false
is_refused_early Fault = false
is_refused_early Want = false

abbrev pub is_fault : Outcome → Bool
is_fault Success = false
is_fault RefusedEarly = false
is_fault RefusedLate = false
is_fault Fault = true
is_fault Want = false

abbrev pub IsSuccess : Status → Type 0
IsSuccess status = IsTrue (is_success (row_of status).1)

abbrev pub IsRefusedEarly : Status → Type 0
IsRefusedEarly status = IsTrue (is_refused_early (row_of status).1)

abbrev pub IsFault : Status → Type 0
IsFault status = IsTrue (is_fault (row_of status).1)
