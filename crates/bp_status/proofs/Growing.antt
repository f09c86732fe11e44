-- What was read, and a fault but for bytes that end too early, stay when bytes are added.
use Rattle.std.proofs.Common.{◌≡◌, ℕ, cond, eqb, List, [], ◌∷◌, ◌++◌, length, Some, None, Result, Ok}
use Rattle.std.specs.List.{list_any}
use Rattle.cbor_profile.specs.declared.fault.Reason.{Reason}
use Rattle.cbor_profile.specs.declared.fault.Reason.TheVariants as reasons
use Rattle.cbor_profile.specs.Step.{◌>>=◌}
use Rattle.bp_eid.specs.declared.stop.Stop.{Stop}
use Rattle.bp_eid.specs.Reading.{stops, head_at, pair_at, number_at, id_at}
use Rattle.bp_eid.proofs.Growing.{with_more, rest_more, Grows, then_grows, either_grows, stops_grows, ok_grows, head_grows, pair_grows, number_grows, id_grows}
use Rattle.bp_status.specs.declared.report.Assertion.TheVariants.{No, Yes, At}
use Rattle.bp_status.specs.Reading.{one_of_at, count_at, simple_at, untimed_at, timed_at, assertion_at, information_at, subject_at, extent_at, piece_at, report_at}
use Rattle.bp_status.proofs.Fields.{asserted_of, after_delivered, after_forwarded, after_received, after_four, named_of, after_created, after_source}
use Rattle.bp_status.proofs.Fields as fields
use Rattle.bp_status.proofs.Reports.{report_of, built, after_subject, after_reason, after_information, after_count, after_kind, after_pair}

-- a reader answers the same when bytes are added
abbrev pub ReadsOn : {A : Type 0} → (List ℕ → Result (A × List ℕ) Stop) → Type 0
ReadsOn read = (bytes more : List ℕ) → Grows (with_more more) (length more) (read bytes) (read (bytes ++ more))

one_grows : (kind : ℕ) (arguments : List ℕ) (reason : Reason) → ReadsOn (one_of_at kind arguments reason)
unfolding one_of_at
one_grows kind arguments reason bytes more =
    let e : ℕ × List ℕ → ℕ × List ℕ = with_more more in
    let k = length more in
    then_grows (with_more more) e k (head_at (kind ∷ []) bytes) (head_at (kind ∷ []) (bytes ++ more))
    (λ head. cond (list_any (λ argument. eqb argument head.0.value) arguments) (Ok (head.0.value, head.1)) (stops bytes reason))
    (λ head. cond (list_any (λ argument. eqb argument head.0.value) arguments) (Ok (head.0.value, head.1)) (stops (bytes ++ more) reason)) (head_grows (kind ∷ []) bytes more)
    (λ x. either_grows e k (list_any (λ argument. eqb argument x.0.value) arguments) (Ok (x.0.value, x.1)) (Ok (x.0.value, x.1 ++ more)) _ _ (ok_grows e k (x.0.value, x.1)) (stops_grows e bytes more reason))

untimed_grows : ReadsOn untimed_at
unfolding untimed_at
untimed_grows bytes more =
    let k = length more in
    then_grows (with_more more) (with_more more) k (simple_at (20 ∷ 21 ∷ []) bytes) (simple_at (20 ∷ 21 ∷ []) (bytes ++ more))
    (λ value. cond (eqb value.0 21) (Ok (Yes, value.1)) (Ok (No, value.1))) (λ value. cond (eqb value.0 21) (Ok (Yes, value.1)) (Ok (No, value.1))) (one_grows 7 (20 ∷ 21 ∷ []) reasons.WrongValue bytes more)
    (λ x. either_grows (with_more more) k (eqb x.0 21) (Ok (Yes, x.1)) (Ok (Yes, x.1 ++ more)) (Ok (No, x.1)) (Ok (No, x.1 ++ more)) (ok_grows (with_more more) k (Yes, x.1)) (ok_grows (with_more more) k (No, x.1)))

timed_grows : ReadsOn timed_at
unfolding timed_at
timed_grows bytes more =
    let k = length more in
    then_grows (with_more more) (with_more more) k (simple_at (21 ∷ []) bytes) (simple_at (21 ∷ []) (bytes ++ more))
    (λ value. number_at value.1 >>= λ time. Ok (At time.0, time.1)) (λ value. number_at value.1 >>= λ time. Ok (At time.0, time.1)) (one_grows 7 (21 ∷ []) reasons.WrongValue bytes more)
    (λ x. then_grows (with_more more) (with_more more) k (number_at x.1) (number_at (x.1 ++ more)) (λ time. Ok (At time.0, time.1)) (λ time. Ok (At time.0, time.1)) (number_grows x.1 more)
    (λ time. ok_grows (with_more more) k (At time.0, time.1)))

assertion_grows : ReadsOn assertion_at
unfolding assertion_at
assertion_grows bytes more =
    let k = length more in
    then_grows (with_more more) (with_more more) k (count_at (1 ∷ 2 ∷ []) bytes) (count_at (1 ∷ 2 ∷ []) (bytes ++ more))
    (λ count. cond (eqb count.0 1) (untimed_at count.1) (timed_at count.1)) (λ count. cond (eqb count.0 1) (untimed_at count.1) (timed_at count.1)) (one_grows 4 (1 ∷ 2 ∷ []) reasons.WrongCount bytes more)
    (λ x. either_grows (with_more more) k (eqb x.0 1) (untimed_at x.1) (untimed_at (x.1 ++ more)) (timed_at x.1) (timed_at (x.1 ++ more)) (untimed_grows x.1 more) (timed_grows x.1 more))

information_grows : ReadsOn information_at
unfolding information_at
information_grows bytes more =
    let k = length more in
    then_grows (with_more more) (with_more more) k (count_at (4 ∷ []) bytes) (count_at (4 ∷ []) (bytes ++ more)) after_four after_four (one_grows 4 (4 ∷ []) reasons.WrongCount bytes more)
    (λ c. then_grows (with_more more) (with_more more) k (assertion_at c.1) (assertion_at (c.1 ++ more)) after_received after_received (assertion_grows c.1 more)
    (λ r. then_grows (with_more more) (with_more more) k (assertion_at r.1) (assertion_at (r.1 ++ more)) (after_forwarded r.0) (after_forwarded r.0) (assertion_grows r.1 more)
    (λ f. then_grows (with_more more) (with_more more) k (assertion_at f.1) (assertion_at (f.1 ++ more)) (after_delivered r.0 f.0) (after_delivered r.0 f.0) (assertion_grows f.1 more)
    (λ d. then_grows (with_more more) (with_more more) k (assertion_at d.1) (assertion_at (d.1 ++ more)) (asserted_of r.0 f.0 d.0) (asserted_of r.0 f.0 d.0) (assertion_grows d.1 more)
    (λ l. ok_grows (with_more more) k (record { received = r.0; forwarded = f.0; delivered = d.0; deleted = l.0 }, l.1))))))

subject_grows : ReadsOn subject_at
unfolding subject_at
subject_grows bytes more =
    let k = length more in
    then_grows (with_more more) (with_more more) k (id_at bytes) (id_at (bytes ++ more)) after_source after_source (id_grows bytes more)
    (λ i. then_grows (rest_more more) (with_more more) k (pair_at i.1) (pair_at (i.1 ++ more)) (fields.after_pair i.0) (fields.after_pair i.0) (pair_grows i.1 more)
    (λ rest. then_grows (with_more more) (with_more more) k (number_at rest) (number_at (rest ++ more)) (after_created i.0) (after_created i.0) (number_grows rest more)
    (λ c. then_grows (with_more more) (with_more more) k (number_at c.1) (number_at (c.1 ++ more)) (named_of i.0 c.0) (named_of i.0 c.0) (number_grows c.1 more)
    (λ s. ok_grows (with_more more) k (record { source = i.0; created = c.0; sequence = s.0 }, s.1)))))

extent_grows : ReadsOn extent_at
unfolding extent_at
extent_grows bytes more =
    let k = length more in
    then_grows (with_more more) (with_more more) k (number_at bytes) (number_at (bytes ++ more))
    (λ offset. number_at offset.1 >>= λ len. Ok (record { offset = offset.0; length = len.0 }, len.1)) (λ offset. number_at offset.1 >>= λ len. Ok (record { offset = offset.0; length = len.0 }, len.1)) (number_grows bytes more)
    (λ o. then_grows (with_more more) (with_more more) k (number_at o.1) (number_at (o.1 ++ more)) (λ len. Ok (record { offset = o.0; length = len.0 }, len.1)) (λ len. Ok (record { offset = o.0; length = len.0 }, len.1)) (number_grows o.1 more)
    (λ l. ok_grows (with_more more) k (record { offset = o.0; length = l.0 }, l.1)))

piece_grows : (count : ℕ) → ReadsOn (piece_at count)
unfolding piece_at
piece_grows count bytes more =
    let k = length more in
    either_grows (with_more more) k (eqb count 6) _ _ (Ok (None, bytes)) (Ok (None, bytes ++ more))
    (then_grows (with_more more) (with_more more) k (extent_at bytes) (extent_at (bytes ++ more)) (λ extent. Ok (Some extent.0, extent.1)) (λ extent. Ok (Some extent.0, extent.1)) (extent_grows bytes more)
    (λ x. ok_grows (with_more more) k (Some x.0, x.1)))
    (ok_grows (with_more more) k (None, bytes))

pub report_grows : ReadsOn report_at
unfolding report_at
report_grows bytes more =
    let k = length more in
    then_grows (rest_more more) (with_more more) k (pair_at bytes) (pair_at (bytes ++ more)) after_pair after_pair (pair_grows bytes more)
    (λ rest. then_grows (with_more more) (with_more more) k (one_of_at 0 (1 ∷ []) reasons.WrongValue rest) (one_of_at 0 (1 ∷ []) reasons.WrongValue (rest ++ more)) after_kind after_kind (one_grows 0 (1 ∷ []) reasons.WrongValue rest more)
    (λ kind. then_grows (with_more more) (with_more more) k (count_at (4 ∷ 6 ∷ []) kind.1) (count_at (4 ∷ 6 ∷ []) (kind.1 ++ more)) after_count after_count (one_grows 4 (4 ∷ 6 ∷ []) reasons.WrongCount kind.1 more)
    (λ c. then_grows (with_more more) (with_more more) k (information_at c.1) (information_at (c.1 ++ more)) (after_information c.0) (after_information c.0) (information_grows c.1 more)
    (λ a. then_grows (with_more more) (with_more more) k (number_at a.1) (number_at (a.1 ++ more)) (after_reason c.0 a.0) (after_reason c.0 a.0) (number_grows a.1 more)
    (λ r. then_grows (with_more more) (with_more more) k (subject_at r.1) (subject_at (r.1 ++ more)) (after_subject c.0 a.0 r.0) (after_subject c.0 a.0 r.0) (subject_grows r.1 more)
    (λ s. then_grows (with_more more) (with_more more) k (piece_at c.0 s.1) (piece_at c.0 (s.1 ++ more)) (built a.0 r.0 s.0) (built a.0 r.0 s.0) (piece_grows c.0 s.1 more)
    (λ p. ok_grows (with_more more) k (report_of a.0 r.0 s.0 p.0, p.1))))))))
