-- What is answered to a whole record when bytes are added.
use Rattle.std.proofs.Common.{◌≡◌, ◌≢◌, ℕ, ◌+◌, ◌-◌, List, [], ◌∷◌, ◌++◌, length, Result, Ok, Err, refl, sym, ◌∙◌, ap, arith}
use Rattle.std.proofs.lemmas.List.{length-append}
use Rattle.cbor_profile.specs.declared.fault.Fault.{Fault}
use Rattle.cbor_profile.specs.declared.fault.Reason.{Reason}
use Rattle.cbor_profile.specs.declared.fault.Reason.TheVariants as reasons
use Rattle.cbor_profile.specs.Step.{◌>>=◌}
use Rattle.bp_eid.specs.declared.stop.Stop.{Stop}
use Rattle.bp_eid.specs.Reading.{stops, place_of, fault_of}
use Rattle.bp_eid.proofs.Growing.{with_more, grown, Stays}
use Rattle.bp_eid.proofs.Answered.{place_stays}
use Rattle.bp_status.specs.declared.report.Report.{Report}
use Rattle.bp_status.specs.StatusReport.{spelling, IsReport}
use Rattle.bp_status.specs.Reading.{report_at, ends, body_at, answer, read_record}
use Rattle.bp_status.proofs.Reports.{report_again, ok_of_report}
use Rattle.bp_status.proofs.Growing.{report_grows}

-- one spelling, and none is a proper prefix of another
pub one_spelling : (a b : Report) (x y : List ℕ) → IsReport a → IsReport b → spelling a ++ x ≡ spelling b ++ y → (a ≡ b) × (x ≡ y)
one_spelling a b x y ha hb e =
    let same : (a, x) ≡ (b, y) = ok_of_report (a, x) (b, y) (sym (report_again a x ha) ∙ (ap report_at e ∙ report_again b y hb)) in
    (ap (λ (p : Report × List ℕ). p.0) same, ap (λ (p : Report × List ℕ). p.1) same)

-- the stop at which reading ends, with more behind it
ends_grow : (bytes more : List ℕ) (x : Report × List ℕ) (stop : Stop) → ends x ≡ Err stop → ends (x.0, x.1 ++ more) ≡ Err (record { reason = stop.reason; left = stop.left + length more })
ends_grow bytes more (report, []) stop e = absurd cc
ends_grow bytes more (report, b ∷ bs) stop e =
    let reason : reasons.Trailing ≡ stop.reason = cc in
    let left : length (b ∷ bs) ≡ stop.left = cc in
    let all : length ((b ∷ bs) ++ more) ≡ stop.left + length more = length-append (b ∷ bs) more ∙ ap (λ n. n + length more) left in
    ap (λ (n : ℕ). Err (record { reason = reasons.Trailing; left = n })) all ∙ ap (λ (r : Reason). Err (record { reason = r; left = stop.left + length more })) reason

body_by : (body more : List ℕ) (r : Result (Report × List ℕ) Stop) (stop : Stop) → report_at body ≡ r → (r >>= ends) ≡ Err stop → stop.reason ≢ reasons.Truncated
    → (report_at (body ++ more) >>= ends) ≡ Err (record { reason = stop.reason; left = stop.left + length more })
unfolding Stays
body_by body more (Ok x) stop is e other =
    ap (λ r. r >>= ends) (report_grows body more (rw is tt) ∙ ap (grown (with_more more) (length more)) is) ∙ ends_grow body more x stop e
body_by body more (Err s) stop is e other =
    let same : s ≡ stop = cc in
    ap (λ r. r >>= ends) (report_grows body more (rw (is, same) other) ∙ ap (grown (with_more more) (length more)) is) ∙ ap (λ (s : Stop). Err (record { reason = s.reason; left = s.left + length more })) same

pub body_stays : (body more : List ℕ) (stop : Stop) → body_at body ≡ Err stop → stop.reason ≢ reasons.Truncated → body_at (body ++ more) ≡ Err (record { reason = stop.reason; left = stop.left + length more })
unfolding body_at
body_stays body more stop e other = body_by body more (report_at body) stop refl e other

answered : (given : ℕ) (r : Result Report Stop) (fault : Fault) → answer given r ≡ Err fault → (stop : Stop) × (r ≡ Err stop) × (fault_of given stop ≡ fault)
answered given (Ok report) fault e = absurd cc
answered given (Err stop) fault e = (stop, refl, cc)

pub fault_stays : (body more : List ℕ) (fault : Fault) → read_record body ≡ Err fault → fault.reason ≢ reasons.Truncated → read_record (body ++ more) ≡ Err fault
unfolding read_record
fault_stays body more fault e other =
    let s = answered (length body) (body_at body) fault e in
    let reason : s.0.reason ≢ reasons.Truncated = λ early. other (ap (λ (f : Fault). f.reason) (sym s.2) ∙ early) in
    let all : length (body ++ more) ≡ length body + length more = length-append body more in
    let place : place_of (length (body ++ more)) s.0.reason (s.0.left + length more) ≡ place_of (length body) s.0.reason s.0.left = rw all (place_stays (length body) s.0.left (length more) s.0.reason reason) in
    rw (body_stays body more s.0 s.1 reason, place) (ap Err s.2)

-- bytes after a report are a fault at its end
pub trailing : (report : Report) (byte : ℕ) (more : List ℕ) → IsReport report → read_record (spelling report ++ byte ∷ more) ≡ Err (record { place = length (spelling report); reason = reasons.Trailing })
unfolding read_record body_at
trailing report byte more fits =
    let place : length (spelling report ++ byte ∷ more) - length (byte ∷ more) ≡ length (spelling report) = omega (arith, length-append (spelling report) (byte ∷ more)) in
    rw (report_again report (byte ∷ more) fits, place) refl
