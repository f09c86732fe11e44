-- Reading a bundle status report (RFC 9171, sections 6.1 and 6.1.1), token by token. A token is a head, or the content of a
-- text string.
use Rattle.std.specs.Prelude.{◌≡◌, ℕ, ◌==◌, if◌then◌else◌, List, [], ◌∷◌, length, Option, Some, None, Result, Ok, Err}
use Rattle.std.specs.List.{list_any}
use Rattle.cbor_profile.specs.declared.fault.Reason.{Reason}
use Rattle.cbor_profile.specs.declared.fault.Reason.TheVariants as reasons
use Rattle.cbor_profile.specs.declared.fault.Fault.{Fault}
use Rattle.cbor_profile.specs.declared.fault.SpellError.{SpellError}
use Rattle.cbor_profile.specs.declared.fault.SpellError.TheVariants as errors
use Rattle.cbor_profile.specs.Step.{◌>>=◌}
use Rattle.bp_eid.specs.declared.stop.Stop.{Stop}
use Rattle.bp_eid.specs.Reading.{stops, head_at, pair_at, number_at, id_at, fault_of}
use Rattle.bp_status.specs.declared.report.Assertion.{Assertion}
use Rattle.bp_status.specs.declared.report.Assertion.TheVariants.{No, Yes, At}
use Rattle.bp_status.specs.declared.report.Extent.{Extent}
use Rattle.bp_status.specs.declared.report.Report.{Report}
use Rattle.bp_status.specs.declared.parts.Asserted.{Asserted}
use Rattle.bp_status.specs.declared.parts.Subject.{Subject}

-- ---- heads with few arguments

-- a head of this major type with one of these arguments, else this reason
unfoldable pub one_of_at : ℕ → List ℕ → Reason → List ℕ → Result (ℕ × List ℕ) Stop
one_of_at kind arguments reason bytes = do
  head ← head_at (kind ∷ []) bytes
  if list_any (λ argument. argument == head.0.value) arguments then Ok (head.0.value, head.1) else stops bytes reason

-- the head of an array of one of these numbers of items
abbrev pub count_at : List ℕ → List ℕ → Result (ℕ × List ℕ) Stop
count_at counts = one_of_at 4 counts reasons.WrongCount

-- one of these simple values: 20 is false, 21 is true
abbrev pub simple_at : List ℕ → List ℕ → Result (ℕ × List ℕ) Stop
simple_at values = one_of_at 7 values reasons.WrongValue

-- ---- the fields

-- what is asserted without a time: false or true
unfoldable pub untimed_at : List ℕ → Result (Assertion × List ℕ) Stop
untimed_at bytes = do
  value ← simple_at (20 ∷ 21 ∷ []) bytes
  if value.0 == 21 then Ok (Yes, value.1) else Ok (No, value.1)

-- what is asserted with a time: true, and the time
unfoldable pub timed_at : List ℕ → Result (Assertion × List ℕ) Stop
timed_at bytes = do
  value ← simple_at (21 ∷ []) bytes
  time ← number_at value.1
  Ok (At time.0, time.1)

-- an assertion: an array of one item, or of two
unfoldable pub assertion_at : List ℕ → Result (Assertion × List ℕ) Stop
assertion_at bytes = do
  count ← count_at (1 ∷ 2 ∷ []) bytes
  if count.0 == 1 then untimed_at count.1 else timed_at count.1

-- the status information: an array of four assertions
unfoldable pub information_at : List ℕ → Result (Asserted × List ℕ) Stop
information_at bytes = do
  count ← count_at (4 ∷ []) bytes
  received ← assertion_at count.1
  forwarded ← assertion_at received.1
  delivered ← assertion_at forwarded.1
  deleted ← assertion_at delivered.1
  Ok (record { received = received.0; forwarded = forwarded.0; delivered = delivered.0; deleted = deleted.0 }, deleted.1)

-- what names the bundle: its source, and an array of the time and the sequence number
unfoldable pub subject_at : List ℕ → Result (Subject × List ℕ) Stop
subject_at bytes = do
  source ← id_at bytes
  rest ← pair_at source.1
  created ← number_at rest
  sequence ← number_at created.1
  Ok (record { source = source.0; created = created.0; sequence = sequence.0 }, sequence.1)

-- the offset and the length of a fragment
unfoldable pub extent_at : List ℕ → Result (Extent × List ℕ) Stop
extent_at bytes = do
  offset ← number_at bytes
  len ← number_at offset.1
  Ok (record { offset = offset.0; length = len.0 }, len.1)

-- the extent, exactly where the content has six items
unfoldable pub piece_at : ℕ → List ℕ → Result (Option Extent × List ℕ) Stop
piece_at count bytes =
    if count == 6 then (extent_at bytes >>= λ extent. Ok (Some extent.0, extent.1)) else Ok (None, bytes)

-- ---- the whole

-- a report and the bytes after it, or where reading from the left stops
unfoldable pub report_at : List ℕ → Result (Report × List ℕ) Stop
report_at bytes = do
  rest ← pair_at bytes
  kind ← one_of_at 0 (1 ∷ []) reasons.WrongValue rest
  count ← count_at (4 ∷ 6 ∷ []) kind.1
  asserted ← information_at count.1
  reason ← number_at asserted.1
  subject ← subject_at reason.1
  piece ← piece_at count.0 subject.1
  Ok (
    record {
      received = asserted.0.received;
      forwarded = asserted.0.forwarded;
      delivered = asserted.0.delivered;
      deleted = asserted.0.deleted;
      reason = reason.0;
      source = subject.0.source;
      created = subject.0.created;
      sequence = subject.0.sequence;
      piece = piece.0;
    },
    piece.1,
  )

-- it ends the record
abbrev pub ends : Report × List ℕ → Result Report Stop
ends (report, []) = Ok report
ends (report, byte ∷ bytes) = stops (byte ∷ bytes) reasons.Trailing

unfoldable pub body_at : List ℕ → Result Report Stop
body_at body = report_at body >>= ends

abbrev pub answer : ℕ → Result Report Stop → Result Report Fault
answer given (Ok report) = Ok report
answer given (Err stop) = Err (fault_of given stop)

-- the report that the record is, or the first fault
unfoldable pub read_record : List ℕ → Result Report Fault
read_record body = answer (length body) (body_at body)

-- ---- what a function returned

-- an error is that of reading; want of memory says nothing
abbrev pub IsErrorOf : SpellError → Result Report Fault → Type 0
IsErrorOf errors.NoMemory read = Unit {0}
IsErrorOf (errors.Fault fault) read = read ≡ Err fault

-- it is what reading gives, or memory ran out
abbrev pub Answers : Result Report SpellError → Result Report Fault → Type 0
Answers (Ok report) read = read ≡ Ok report
Answers (Err e) read = IsErrorOf e read
