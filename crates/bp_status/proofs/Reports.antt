-- A report is read as it is spelled.
use Rattle.std.proofs.Common.{◌≡◌, ℕ, ◌^◌, ◌<◌, List, [], ◌∷◌, ◌++◌, length, true, Option, Some, None, Result, Ok, Err, refl, sym, ◌∙◌, ap, subst, append_assoc, arith}
use Rattle.std.specs.Prelude.{IfOk}
use Rattle.std.proofs.lemmas.List.{append-nil}
use Rattle.cbor_profile.specs.declared.fault.Reason.TheVariants as reasons
use Rattle.cbor_profile.specs.declared.fault.SpellError.{SpellError}
use Rattle.cbor_profile.specs.Put.{uint, array_head}
use Rattle.cbor_profile.specs.Step.{◌>>=◌}
use Rattle.cbor_profile.proofs.Tokens.{is_among}
use Rattle.bp_eid.specs.declared.stop.Stop.{Stop}
use Rattle.bp_eid.specs.EndpointId as ids
use Rattle.bp_eid.specs.Reading.{pair_at, number_at}
use Rattle.bp_eid.proofs.Steps.{IsBytes, bind_ok, ok_is, Takes, Takes-then}
use Rattle.bp_eid.proofs.Tokens.{pair_again, pair_means, number_again, number_means}
use Rattle.bp_status.specs.declared.report.Extent.{Extent}
use Rattle.bp_status.specs.declared.report.Report.{Report}
use Rattle.bp_status.specs.declared.parts.Asserted.{Asserted}
use Rattle.bp_status.specs.declared.parts.Subject.{Subject}
use Rattle.bp_status.specs.StatusReport.{timestamp, extent_items, content_count, spelling, IsReport, Reads}
use Rattle.bp_status.specs.Reading.{one_of_at, count_at, information_at, subject_at, piece_at, report_at, ends, body_at, read_record, answer, Answers}
use Rattle.bp_status.proofs.Heads.{laws, count_again, kind_again, count_means, kind_means}
use Rattle.bp_status.proofs.Fields.{information_of, information_again, information_means, subject_of, subject_again, subject_means, piece_again, piece_means}

-- ---- parts

abbrev pub asserted_in : Report → Asserted
asserted_in report = record { received = report.received; forwarded = report.forwarded; delivered = report.delivered; deleted = report.deleted }

abbrev pub subject_in : Report → Subject
subject_in report = record { source = report.source; created = report.created; sequence = report.sequence }

-- a report of its parts
abbrev pub report_of : Asserted → ℕ → Subject → Option Extent → Report
report_of asserted reason subject piece = record {
  received = asserted.received;
  forwarded = asserted.forwarded;
  delivered = asserted.delivered;
  deleted = asserted.deleted;
  reason = reason;
  source = subject.source;
  created = subject.created;
  sequence = subject.sequence;
  piece = piece;
}

-- ---- what is spelled is read

small_count : (piece : Option Extent) → content_count piece < 2 ^ 64
small_count None = omega arith
small_count (Some extent) = omega arith

permitted : (piece : Option Extent) → is_among (4 ∷ 6 ∷ []) (content_count piece) ≡ true
permitted None = refl
permitted (Some extent) = refl

pub report_again : (report : Report) (rest : List ℕ) → IsReport report → report_at (spelling report ++ rest) ≡ Ok (report, rest)
unfolding report_at spelling
report_again report rest fits =
    let r6 = extent_items report.piece ++ rest in
    let r5 = subject_of (subject_in report) ++ r6 in
    let r4 = uint report.reason ++ r5 in
    let r3 = information_of (asserted_in report) ++ r4 in
    let r2 = array_head (content_count report.piece) ++ r3 in
    let r1 = uint 1 ++ r2 in
    let few : content_count report.piece < 2 ^ 64 = small_count report.piece in
    let regrouped : spelling report ++ rest ≡ array_head 2 ++ r1 = simp append_assoc in
    ap report_at regrouped
    ∙ rw (
      pair_again laws r1,
      kind_again r2,
      count_again (4 ∷ 6 ∷ []) (content_count report.piece) r3 few (permitted report.piece),
      information_again (asserted_in report) r4 (record { received = fits.received; forwarded = fits.forwarded; delivered = fits.delivered; deleted = fits.deleted }),
      number_again laws report.reason r5 fits.reason,
      subject_again (subject_in report) r6 (record { source = fits.source; created = fits.created; sequence = fits.sequence }),
      piece_again report.piece rest fits.piece,
    ) refl

-- ---- what is read is spelled so

-- a report that was read
pub record ReadsReport (bytes : List ℕ) (x : Report × List ℕ) : Type 0 where
  pub takes : Takes bytes (spelling x.0) x.1
  pub fits : IsReport x.0

-- what follows each field
abbrev pub built : Asserted → ℕ → Subject → Option Extent × List ℕ → Result (Report × List ℕ) Stop
built asserted reason subject piece = Ok (report_of asserted reason subject piece.0, piece.1)

abbrev pub after_subject : ℕ → Asserted → ℕ → Subject × List ℕ → Result (Report × List ℕ) Stop
after_subject count asserted reason subject = piece_at count subject.1 >>= built asserted reason subject.0

abbrev pub after_reason : ℕ → Asserted → ℕ × List ℕ → Result (Report × List ℕ) Stop
after_reason count asserted reason = subject_at reason.1 >>= after_subject count asserted reason.0

abbrev pub after_information : ℕ → Asserted × List ℕ → Result (Report × List ℕ) Stop
after_information count asserted = number_at asserted.1 >>= after_reason count asserted.0

abbrev pub after_count : ℕ × List ℕ → Result (Report × List ℕ) Stop
after_count count = information_at count.1 >>= after_information count.0

abbrev pub after_kind : ℕ × List ℕ → Result (Report × List ℕ) Stop
after_kind kind = count_at (4 ∷ 6 ∷ []) kind.1 >>= after_count

abbrev pub after_pair : List ℕ → Result (Report × List ℕ) Stop
after_pair rest = one_of_at 0 (1 ∷ []) reasons.WrongValue rest >>= after_kind

pub report_means : (bytes : List ℕ) (x : Report × List ℕ) → IsBytes bytes → report_at bytes ≡ Ok x → ReadsReport bytes x
unfolding report_at spelling
report_means bytes x small e =
    let p = bind_ok (pair_at bytes) after_pair x e in
    let k = bind_ok (one_of_at 0 (1 ∷ []) reasons.WrongValue p.0) after_kind x p.2 in
    let c = bind_ok (count_at (4 ∷ 6 ∷ []) k.0.1) after_count x k.2 in
    let a = bind_ok (information_at c.0.1) (after_information c.0.0) x c.2 in
    let r = bind_ok (number_at a.0.1) (after_reason c.0.0 a.0.0) x a.2 in
    let s = bind_ok (subject_at r.0.1) (after_subject c.0.0 a.0.0 r.0.0) x r.2 in
    let l = bind_ok (piece_at c.0.0 s.0.1) (built a.0.0 r.0.0 s.0.0) x s.2 in
    let pair = pair_means laws bytes p.0 small p.1 in
    let kind = kind_means p.0 k.0 pair.rest_fits k.1 in
    let count = count_means (4 ∷ 6 ∷ []) k.0.1 c.0 kind.rest_fits c.1 in
    let asserted = information_means c.0.1 a.0 count.0.rest_fits a.1 in
    let reason = number_means laws a.0.1 r.0 asserted.0.rest_fits r.1 in
    let subject = subject_means r.0.1 s.0 reason.0.rest_fits s.1 in
    let piece = piece_means c.0.0 s.0.1 l.0 subject.0.rest_fits count.1 l.1 in
    let counted : Takes k.0.1 (array_head (content_count l.0.0)) c.0.1 = subst (λ (n : ℕ). Takes k.0.1 (array_head n) c.0.1) (sym piece.counted) count.0 in
    let names = ids.spelling s.0.0.source in
    let time = timestamp s.0.0.created s.0.0.sequence in
    let named : Takes r.0.1 (names ++ (time ++ extent_items l.0.0)) l.0.1 = subst (λ (t : List ℕ). Takes r.0.1 t l.0.1) (append_assoc names time (extent_items l.0.0)) (Takes-then r.0.1 (subject_of s.0.0) s.0.1 (extent_items l.0.0) l.0.1 subject.0 piece.takes) in
    let t4 = Takes-then a.0.1 (uint r.0.0) r.0.1 (names ++ (time ++ extent_items l.0.0)) l.0.1 reason.0 named in
    let t3 = Takes-then c.0.1 (information_of a.0.0) a.0.1 (uint r.0.0 ++ (names ++ (time ++ extent_items l.0.0))) l.0.1 asserted.0 t4 in
    let t2 = Takes-then k.0.1 (array_head (content_count l.0.0)) c.0.1 (information_of a.0.0 ++ (uint r.0.0 ++ (names ++ (time ++ extent_items l.0.0)))) l.0.1 counted t3 in
    let t1 = Takes-then p.0 (uint 1) k.0.1 (array_head (content_count l.0.0) ++ (information_of a.0.0 ++ (uint r.0.0 ++ (names ++ (time ++ extent_items l.0.0))))) l.0.1 kind t2 in
    let t0 = Takes-then bytes (array_head 2) p.0 (uint 1 ++ (array_head (content_count l.0.0) ++ (information_of a.0.0 ++ (uint r.0.0 ++ (names ++ (time ++ extent_items l.0.0)))))) l.0.1 pair t1 in
    subst (ReadsReport bytes) (ok_is (report_of a.0.0 r.0.0 s.0.0 l.0.0, l.0.1) x l.2)
    (record {
      takes = t0;
      fits = record {
        received = asserted.1.received;
        forwarded = asserted.1.forwarded;
        delivered = asserted.1.delivered;
        deleted = asserted.1.deleted;
        reason = reason.1;
        source = subject.1.source;
        created = subject.1.created;
        sequence = subject.1.sequence;
        piece = piece.fits;
      };
    })

-- ---- the whole record

ends_ok : (x : Report × List ℕ) (report : Report) → ends x ≡ Ok report → x ≡ (report, [])
ends_ok (y, []) report e = cc
ends_ok (y, byte ∷ bytes) report e = absurd cc

body_means : (body : List ℕ) (report : Report) → IsBytes body → body_at body ≡ Ok report → Reads body report
unfolding body_at
body_means body report small e =
    let b = bind_ok (report_at body) ends report e in
    let same = ends_ok b.0 report b.2 in
    let m = subst (ReadsReport body) same (report_means body b.0 small b.1) in
    (m.fits, m.takes.parts ∙ append-nil (spelling report))

body_again : (body : List ℕ) (report : Report) → Reads body report → body_at body ≡ Ok report
unfolding body_at
body_again body report reads =
    let whole : body ≡ spelling report ++ [] = reads.1 ∙ sym (append-nil (spelling report)) in
    ap (λ (l : List ℕ). report_at l >>= ends) whole ∙ rw (report_again report [] reads.0) refl

-- ---- what is answered

answer_ok : (given : ℕ) (r : Result Report Stop) (report : Report) → answer given r ≡ Ok report → r ≡ Ok report
answer_ok given (Ok x) report e = cc
answer_ok given (Err stop) report e = absurd cc

pub read_means : (body : List ℕ) (report : Report) → IsBytes body → read_record body ≡ Ok report → Reads body report
unfolding read_record
read_means body report small e = body_means body report small (answer_ok (length body) (body_at body) report e)

pub read_again : (body : List ℕ) (report : Report) → Reads body report → read_record body ≡ Ok report
unfolding read_record
read_again body report reads = rw (body_again body report reads) refl

pub is_meant : (body : List ℕ) (r : Result Report SpellError) → IsBytes body → Answers r (read_record body) → IfOk r (Reads body)
is_meant body (Ok report) small h = read_means body report small h
is_meant body (Err e) small h = tt

pub is_found : (body : List ℕ) (r : Result Report SpellError) (report : Report) → Answers r (read_record body) → Reads body report → Answers r (Ok report)
is_found body r report h reads = subst (Answers r) (read_again body report reads) h

abbrev report_done : Report × List ℕ → Result (Report × List ℕ) Stop
report_done x = Ok x

pub ok_of_report : (x y : Report × List ℕ) → report_done x ≡ report_done y → x ≡ y
ok_of_report x y e = ok_is x y e
