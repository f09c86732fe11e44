-- What is due to be delivered, by what the devices did in a run. Here alone is spoken of bytes that aren't
-- told: of them it is said that some content, or some input, makes it so.
use Rattle.std.specs.Prelude.{◌≡◌, ℕ, ◌⊎◌, List, [], ◌∷◌, ◌++◌, Option, Some, Result, Ok, Err, IfSome}
use Rattle.bp_outside.specs.Outside.{Rose}
use Rattle.bp_bundle.specs.WholeInput.{IsInput}
use Rattle.bpsec_answer.specs.declared.answer.Answer.{Answer}
use Rattle.bpsec_answer.specs.declared.answer.Hindrance.{Hindrance}
use Rattle.bpsec_answer.specs.declared.answer.Hindrance.TheVariants as hindrances
use Rattle.bpsec_answer.specs.Job.{Job, Answered, Fetch, Read, World}
use Rattle.bpsec_answer.specs.Lines.{input_fault, shelf_fault, memory_fault}

-- what the input and the shelf told before the run, and their faults before and after it
pub record Devices : Type 0 where
  pub input : Option (List ℕ)
  pub input_before : ℕ
  pub input_now : ℕ
  pub files : Option (List ℕ → Option (List ℕ))
  pub failed_before : List (List ℕ)
  pub failed_now : List (List ℕ)

-- these devices, from before a run to after it, by what their traits tell of them
abbrev pub devices_of : {I F : Type 0} → (I → Option (List ℕ)) → (I → ℕ)
    → (F → Option (List ℕ → Option (List ℕ))) → (F → List (List ℕ)) → I → I → F → F → Devices
devices_of left faults files failed input input' shelf shelf' = record {
  input = left input;
  input_before = faults input;
  input_now = faults input';
  files = files shelf;
  failed_before = failed shelf;
  failed_now = failed shelf';
}

-- the content of the name, where it is told, else any
abbrev pub IsFile : Option (List ℕ → Option (List ℕ)) → List ℕ → List ℕ → Type 0
IsFile files name content = IfSome files (λ held. held name ≡ Some content)

-- The devices tell all of this world: its input, and of its files the content of each name that is held.
pub record Tells (devices : Devices) (world : World) : Type 0 where
  pub input : devices.input ≡ Some world.input
  pub held : List ℕ → Option (List ℕ)
  pub files : devices.files ≡ Some held
  pub contents : (name content : List ℕ) → held name ≡ Some content → world.files name ≡ content

-- the work ends with this answer
abbrev pub EndsWith : Devices → Job → Answer → Type 0
EndsWith devices (Answered own) answer = answer ≡ own
EndsWith devices (Fetch name next) answer =
    (content : List ℕ) × IsFile devices.files name content × EndsWith devices (next content) answer
EndsWith devices (Read next) answer =
    (bytes : List ℕ) × IsInput devices.input bytes × EndsWith devices (next bytes) answer

-- the work comes to a read of the input
abbrev pub ComesToRead : Devices → Job → Type 0
ComesToRead devices (Answered own) = ⊥
ComesToRead devices (Fetch name next) =
    (content : List ℕ) × IsFile devices.files name content × ComesToRead devices (next content)
ComesToRead devices (Read next) = Unit {0}

-- the work comes to a fetch of this name
abbrev pub ComesToFetch : Devices → Job → List ℕ → Type 0
ComesToFetch devices (Answered own) name = ⊥
ComesToFetch devices (Fetch own next) name =
    (name ≡ own)
    ⊎ ((content : List ℕ) × IsFile devices.files own content × ComesToFetch devices (next content) name)
ComesToFetch devices (Read next) name = ⊥

-- Nothing failed: the answer is due, or no memory was left.
pub record IsAnswered (devices : Devices) (work : Job) (due : Answer) : Type 0 where
  pub quiet_input : devices.input_now ≡ devices.input_before
  pub quiet_shelf : devices.failed_now ≡ devices.failed_before
  pub is : EndsWith devices work due ⊎ (due ≡ memory_fault)

-- A read of the input failed: its count rose, and the work came to it.
pub record IsInputFault (devices : Devices) (work : Job) (due : Answer) : Type 0 where
  pub rose : Rose devices.input_before devices.input_now
  pub reached : ComesToRead devices work
  pub quiet_shelf : devices.failed_now ≡ devices.failed_before
  pub is : due ≡ input_fault

-- A fetch failed: the failed names gained just this name, and the work came to it.
pub record IsShelfFault (devices : Devices) (work : Job) (due : Answer) : Type 0 where
  pub name : List ℕ
  pub noted : devices.failed_now ≡ devices.failed_before ++ name ∷ []
  pub reached : ComesToFetch devices work name
  pub quiet_input : devices.input_now ≡ devices.input_before
  pub is : due ≡ shelf_fault

-- What is due: the answer, or the line of what stood in the way.
abbrev pub IsDue : Devices → Job → Answer → Type 0
IsDue devices work due =
    IsAnswered devices work due ⊎ (IsInputFault devices work due ⊎ IsShelfFault devices work due)

-- what is due where something stands in the way
abbrev pub due_of : Result Answer Hindrance → Answer
due_of (Ok answer) = answer
due_of (Err hindrances.Input) = input_fault
due_of (Err hindrances.Shelf) = shelf_fault
due_of (Err hindrances.Memory) = memory_fault
