-- What became of what was due: delivered whole, or broken off in the output or in the report.
use Rattle.std.specs.Prelude.{◌≡◌, ℕ, ◌<◌, ◌⊎◌, List, length, take, Option}
use Rattle.bp_outside.specs.Outside.{Appended, Rose}
use Rattle.bpsec_answer.specs.declared.answer.Answer.{Answer}
use Rattle.bpsec_answer.specs.declared.status.Status.{Status}
use Rattle.bpsec_answer.specs.declared.status.Status.TheVariants.{WriteFault}
use Rattle.bpsec_answer.specs.declared.status.Writing.TheVariants.{Out, Report}

-- what a sink holds, where it tells that, and its count of faults, before a run and after it
pub record Sunk : Type 0 where
  pub before : Option (List ℕ)
  pub now : Option (List ℕ)
  pub faults_before : ℕ
  pub faults_now : ℕ

-- this sink, from before a run to after it, by what its trait tells of it
abbrev pub sunk_of : {W : Type 0} → (W → Option (List ℕ)) → (W → ℕ) → W → W → Sunk
sunk_of written faults before now = record {
  before = written before;
  now = written now;
  faults_before = faults before;
  faults_now = faults now;
}

-- it got just these bytes
pub record Got (sunk : Sunk) (bytes : List ℕ) : Type 0 where
  pub added : Appended sunk.before bytes sunk.now
  pub quiet : sunk.faults_now ≡ sunk.faults_before

-- A write to it failed: bytes were due, and a proper prefix of them was added.
pub record Broke (sunk : Sunk) (bytes : List ℕ) : Type 0 where
  pub count : ℕ
  pub proper : count < length bytes
  pub added : Appended sunk.before (take count bytes) sunk.now
  pub rose : Rose sunk.faults_before sunk.faults_now

-- it got nothing
pub record Kept (sunk : Sunk) : Type 0 where
  pub same : sunk.now ≡ sunk.before
  pub quiet : sunk.faults_now ≡ sunk.faults_before

pub record IsWhole (due : Answer) (status : Status) (out report : Sunk) : Type 0 where
  pub ended : status ≡ due.status
  pub out_got : Got out due.out
  pub report_got : Got report due.report

pub record BreaksOut (due : Answer) (status : Status) (out report : Sunk) : Type 0 where
  pub ended : status ≡ WriteFault Out
  pub out_broke : Broke out due.out
  pub report_kept : Kept report

pub record BreaksReport (due : Answer) (status : Status) (out report : Sunk) : Type 0 where
  pub ended : status ≡ WriteFault Report
  pub out_got : Got out due.out
  pub report_broke : Broke report due.report

-- The output is written whole before the report.
abbrev pub IsDelivered : Answer → Status → Sunk → Sunk → Type 0
IsDelivered due status out report =
    IsWhole due status out report
    ⊎ (BreaksOut due status out report ⊎ BreaksReport due status out report)

-- a sink takes all that is due to it, where something is
abbrev pub Takes : (ℕ → Type 0) → List ℕ → Type 0
Takes takes due = 0 < length due → takes (length due)
