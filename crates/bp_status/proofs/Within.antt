-- What is left, after what was read or at a faulty token, is no more than what was given.
use Rattle.std.proofs.Common.{◌≡◌, ℕ, ◌≤◌, cond, eqb, List, [], ◌∷◌, length, Some, None, Result, Ok, Err, subst, arith}
use Rattle.std.specs.List.{list_any}
use Rattle.cbor_profile.specs.declared.fault.Reason.{Reason}
use Rattle.cbor_profile.specs.declared.fault.Reason.TheVariants as reasons
use Rattle.cbor_profile.specs.Step.{◌>>=◌}
use Rattle.bp_eid.specs.declared.stop.Stop.{Stop}
use Rattle.bp_eid.specs.Reading.{stops, head_at, pair_at, number_at, id_at}
use Rattle.bp_eid.proofs.Within.{IsWithin, rest_of, then_within, either_within, stops_within, ok_within, head_within, pair_within, number_within, id_within}
use Rattle.bp_status.specs.declared.report.Assertion.TheVariants.{No, Yes, At}
use Rattle.bp_status.specs.declared.report.Report.{Report}
use Rattle.bp_status.specs.Reading.{one_of_at, count_at, simple_at, untimed_at, timed_at, assertion_at, information_at, subject_at, extent_at, piece_at, report_at}
use Rattle.bp_status.proofs.Reports.{report_of}

-- a reader leaves no more than it was given
abbrev pub StaysWithin : {A : Type 0} → (List ℕ → Result (A × List ℕ) Stop) → Type 0
StaysWithin read = (given : ℕ) (bytes : List ℕ) → length bytes ≤ given → IsWithin rest_of given (read bytes)

one_within : (kind : ℕ) (arguments : List ℕ) (reason : Reason) → StaysWithin (one_of_at kind arguments reason)
unfolding one_of_at
one_within kind arguments reason given bytes le =
    then_within rest_of rest_of given (head_at (kind ∷ []) bytes) _ (head_within (kind ∷ []) given bytes le)
    (λ x h. either_within rest_of given (list_any (λ argument. eqb argument x.0.value) arguments) (Ok (x.0.value, x.1)) _ (ok_within rest_of given (x.0.value, x.1) h) (stops_within rest_of given bytes reason le))

untimed_within : StaysWithin untimed_at
unfolding untimed_at
untimed_within given bytes le =
    then_within rest_of rest_of given (simple_at (20 ∷ 21 ∷ []) bytes) _ (one_within 7 (20 ∷ 21 ∷ []) reasons.WrongValue given bytes le)
    (λ x h. either_within rest_of given (eqb x.0 21) (Ok (Yes, x.1)) (Ok (No, x.1)) (ok_within rest_of given (Yes, x.1) h) (ok_within rest_of given (No, x.1) h))

timed_within : StaysWithin timed_at
unfolding timed_at
timed_within given bytes le =
    then_within rest_of rest_of given (simple_at (21 ∷ []) bytes) _ (one_within 7 (21 ∷ []) reasons.WrongValue given bytes le)
    (λ x h. then_within rest_of rest_of given (number_at x.1) _ (number_within given x.1 h) (λ time k. ok_within rest_of given (At time.0, time.1) k))

assertion_within : StaysWithin assertion_at
unfolding assertion_at
assertion_within given bytes le =
    then_within rest_of rest_of given (count_at (1 ∷ 2 ∷ []) bytes) _ (one_within 4 (1 ∷ 2 ∷ []) reasons.WrongCount given bytes le)
    (λ x h. either_within rest_of given (eqb x.0 1) (untimed_at x.1) (timed_at x.1) (untimed_within given x.1 h) (timed_within given x.1 h))

information_within : StaysWithin information_at
unfolding information_at
information_within given bytes le =
    then_within rest_of rest_of given (count_at (4 ∷ []) bytes) _ (one_within 4 (4 ∷ []) reasons.WrongCount given bytes le)
    (λ count h. then_within rest_of rest_of given (assertion_at count.1) _ (assertion_within given count.1 h)
    (λ received i. then_within rest_of rest_of given (assertion_at received.1) _ (assertion_within given received.1 i)
    (λ forwarded j. then_within rest_of rest_of given (assertion_at forwarded.1) _ (assertion_within given forwarded.1 j)
    (λ delivered k. then_within rest_of rest_of given (assertion_at delivered.1) _ (assertion_within given delivered.1 k)
    (λ deleted l. ok_within rest_of given (record { received = received.0; forwarded = forwarded.0; delivered = delivered.0; deleted = deleted.0 }, deleted.1) l)))))

subject_within : StaysWithin subject_at
unfolding subject_at
subject_within given bytes le =
    then_within rest_of rest_of given (id_at bytes) _ (id_within given bytes le)
    (λ source h. then_within length rest_of given (pair_at source.1) _ (pair_within given source.1 h)
    (λ rest i. then_within rest_of rest_of given (number_at rest) _ (number_within given rest i)
    (λ created j. then_within rest_of rest_of given (number_at created.1) _ (number_within given created.1 j)
    (λ sequence k. ok_within rest_of given (record { source = source.0; created = created.0; sequence = sequence.0 }, sequence.1) k))))

extent_within : StaysWithin extent_at
unfolding extent_at
extent_within given bytes le =
    then_within rest_of rest_of given (number_at bytes) _ (number_within given bytes le)
    (λ offset h. then_within rest_of rest_of given (number_at offset.1) _ (number_within given offset.1 h) (λ len i. ok_within rest_of given (record { offset = offset.0; length = len.0 }, len.1) i))

piece_within : (count : ℕ) → StaysWithin (piece_at count)
unfolding piece_at
piece_within count given bytes le =
    either_within rest_of given (eqb count 6) _ (Ok (None, bytes))
    (then_within rest_of rest_of given (extent_at bytes) _ (extent_within given bytes le) (λ x h. ok_within rest_of given (Some x.0, x.1) h)) (ok_within rest_of given (None, bytes) le)

report_within : StaysWithin report_at
unfolding report_at
report_within given bytes le =
    then_within length rest_of given (pair_at bytes) _ (pair_within given bytes le)
    (λ rest h. then_within rest_of rest_of given (one_of_at 0 (1 ∷ []) reasons.WrongValue rest) _ (one_within 0 (1 ∷ []) reasons.WrongValue given rest h)
    (λ kind i. then_within rest_of rest_of given (count_at (4 ∷ 6 ∷ []) kind.1) _ (one_within 4 (4 ∷ 6 ∷ []) reasons.WrongCount given kind.1 i)
    (λ count j. then_within rest_of rest_of given (information_at count.1) _ (information_within given count.1 j)
    (λ asserted k. then_within rest_of rest_of given (number_at asserted.1) _ (number_within given asserted.1 k)
    (λ reason l. then_within rest_of rest_of given (subject_at reason.1) _ (subject_within given reason.1 l)
    (λ subject m. then_within rest_of rest_of given (piece_at count.0 subject.1) _ (piece_within count.0 given subject.1 m)
    (λ piece n. ok_within rest_of given (report_of asserted.0 reason.0 subject.0 piece.0, piece.1) n)))))))

-- the two sides
pub rest_within : (bytes : List ℕ) (x : Report × List ℕ) → report_at bytes ≡ Ok x → length x.1 ≤ length bytes
unfolding IsWithin
rest_within bytes x e = subst (IsWithin rest_of (length bytes)) e (report_within (length bytes) bytes (omega arith))

pub stop_within : (bytes : List ℕ) (stop : Stop) → report_at bytes ≡ Err stop → stop.left ≤ length bytes
unfolding IsWithin
stop_within bytes stop e = subst (IsWithin rest_of (length bytes)) e (report_within (length bytes) bytes (omega arith))
