-- No report is due of a report.
use Rattle.std.proofs.Common.{◌≡◌, ℕ, Bool, true, false, cond, List, Option, Some, None, refl, subst, sym}
use Rattle.bp_eid.specs.declared.eid.Eid.{Eid}
use Rattle.bp_bundle.specs.Shape.{Contents}
use Rattle.bp_primary.specs.declared.primary.Primary.{Primary}
use Rattle.bpsec_node.specs.declared.event.Event.{Event}
use Rattle.bp_status.specs.declared.report.Report.{Report}
use Rattle.bp_report.specs.declared.subject.Subject.{Subject}
use Rattle.bp_report.specs.Due.{subject_of, status_of, report_bundle, is_due, due_report}

administrative : (primary : Primary) (node : Eid) (status : Report) (time sequence : ℕ) (other : Eid)
    (more : List Event) (dropped : Bool) (later number : ℕ)
    → due_report (subject_of (report_bundle primary node status time sequence)) other more dropped later number ≡ None
unfolding report_bundle is_due due_report
administrative primary node status time sequence other more dropped later number = refl

made : (b : Bool) (primary : Primary) (node : Eid) (status : Report) (time sequence : ℕ) (report : Contents)
    → cond b (Some (report_bundle primary node status time sequence)) None ≡ Some report
    → (other : Eid) (more : List Event) (dropped : Bool) (later number : ℕ)
    → due_report (subject_of report) other more dropped later number ≡ None
made true primary node status time sequence report is other more dropped later number =
    let same : report_bundle primary node status time sequence ≡ report = cc in
    rw (← same) (administrative primary node status time sequence other more dropped later number)
made false primary node status time sequence report is other more dropped later number = absurd (cc)

pub unreported : (subject : Subject) (node : Eid) (events : List Event) (discarded : Bool) (time sequence : ℕ)
    (report : Contents) → due_report subject node events discarded time sequence ≡ Some report
    → (other : Eid) (more : List Event) (dropped : Bool) (later number : ℕ)
    → due_report (subject_of report) other more dropped later number ≡ None
unreported subject node events discarded time sequence report is =
    made (is_due subject.primary discarded) subject.primary node (status_of subject events discarded time)
    time sequence report (unfold due_report in is)
