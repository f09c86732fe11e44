-- What is said of every answer beside what it is.
use Rattle.std.specs.Prelude.{◌≡◌, ℕ, List, [], Option, Result, IfOk, IfSome, IsErrOf}
use Rattle.bpsec_answer.specs.declared.answer.Answer.{Answer}
use Rattle.bpsec_answer.specs.declared.answer.Hindrance.{Hindrance}
use Rattle.bpsec_answer.specs.declared.answer.Hindrance.TheVariants.{Input, Shelf}
use Rattle.bpsec_answer.specs.Statuses.{IsSuccess, IsRefusedEarly, IsFault}

-- ---- an answer

-- it tells no fault of a device
abbrev pub NoFault : {E : Type 0} → Result Answer E → Type 0
NoFault result = IfOk result (λ answer. IsFault answer.status → ⊥)

-- it is no refusal that comes before a read of the input
abbrev pub NotEarly : {E : Type 0} → Result Answer E → Type 0
NotEarly result = IfOk result (λ answer. IsRefusedEarly answer.status → ⊥)

-- only what is done writes to the output
abbrev pub NoOutput : {E : Type 0} → Result Answer E → Type 0
NoOutput result = IfOk result (λ answer. (IsSuccess answer.status → ⊥) → answer.out ≡ [])

-- ---- an answer, and the devices

-- what is done leaves nothing of the input
abbrev pub Ended : {E : Type 0} → Result Answer E → Option (List ℕ) → Type 0
Ended result left = IfOk result (λ answer. IsSuccess answer.status → IfSome left (λ rest. rest ≡ []))

-- a refusal that comes before a read of the input leaves it as it was
abbrev pub Unread : {E I : Type 0} → Result Answer E → I → I → Type 0
Unread result before now = IfOk result (λ answer. IsRefusedEarly answer.status → now ≡ before)

-- an input that is steady is read
abbrev pub ReadsOn : {A : Type 0} → Type 0 → Result A Hindrance → Type 0
ReadsOn steady result = steady → IsErrOf result Input → ⊥

-- from a shelf that is steady files are fetched
abbrev pub FetchesOn : {A : Type 0} → Type 0 → Result A Hindrance → Type 0
FetchesOn steady result = steady → IsErrOf result Shelf → ⊥

-- no fault of the input comes of it
abbrev pub NoInputFault : {A : Type 0} → Result A Hindrance → Type 0
NoInputFault result = IsErrOf result Input → ⊥

-- no fault of the shelf comes of it
abbrev pub NoShelfFault : {A : Type 0} → Result A Hindrance → Type 0
NoShelfFault result = IsErrOf result Shelf → ⊥
