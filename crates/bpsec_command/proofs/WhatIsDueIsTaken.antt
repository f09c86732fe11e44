-- What is due is taken where the sinks take all that may be due.
use Rattle.std.proofs.Common.{◌≡◌, ℕ, ◌<◌, List, [], length, inl, inr, refl, sym, subst, arith}
use Rattle.bpsec_answer.specs.declared.answer.Answer.{Answer}
use Rattle.bpsec_answer.specs.Job.{Job}
use Rattle.bpsec_answer.specs.Lines.{memory_fault}
use Rattle.bpsec_answer.specs.Due.{Devices, IsDue, EndsWith}
use Rattle.bpsec_answer.specs.declared.status.Status.{Status}
use Rattle.bpsec_answer.specs.declared.status.Status.TheVariants.{WriteFault}
use Rattle.bpsec_answer.specs.declared.status.Writing.TheVariants.{Out, Report}
use Rattle.bpsec_answer.specs.Delivery.{Sunk, IsDelivered, Takes}
use Rattle.bpsec_answer.specs.Statuses.{IsSuccess, IsFault}

-- both sinks take what an answer has for them
abbrev pub TakesBoth : (ℕ → Type 0) → (ℕ → Type 0) → Answer → Type 0
TakesBoth out report due = Takes out due.out × Takes report due.report

of_memory : (out report : ℕ → Type 0) → Takes report memory_fault.report → TakesBoth out report memory_fault
of_memory out report takes = ((λ some. absurd (omega arith)), takes)

pub takes_due : (devices : Devices) (work : Job) (due : Answer) (out report : ℕ → Type 0) → IsDue devices work due → (IsFault due.status → ⊥)
    → ((own : Answer) → EndsWith devices work own → TakesBoth out report own) → Takes report memory_fault.report → TakesBoth out report due
takes_due devices work due out report (inl answered) quiet takes memory =
    elim answered.is [
      | inl ends ↦ takes due ends
      | inr none ↦ subst (TakesBoth out report) (sym none) (of_memory out report memory)
    ]
takes_due devices work due out report (inr (inl fault)) quiet takes memory = absurd (quiet (subst (λ (a : Answer). IsFault a.status) (sym fault.is) refl))
takes_due devices work due out report (inr (inr fault)) quiet takes memory = absurd (quiet (subst (λ (a : Answer). IsFault a.status) (sym fault.is) refl))

-- Where what is due was delivered whole, only what is done has bytes for the output.
pub untouched : {P : Type 0} (due : Answer) (status : Status) (out report : Sunk) → IsDelivered due status out report → (IsSuccess status → ⊥) → (status ≡ WriteFault Out → ⊥) → (status ≡ WriteFault Report → ⊥)
    → ((IsSuccess due.status → ⊥) → due.out ≡ []) → (due.out ≡ [] → P) → P
untouched due status out report (inl whole) refused no_out no_report none then = then (none (λ success. refused (subst IsSuccess (sym whole.ended) success)))
untouched due status out report (inr (inl broken)) refused no_out no_report none then = absurd (no_out broken.ended)
untouched due status out report (inr (inr broken)) refused no_out no_report none then = absurd (no_report broken.ended)
