-- The status report that a node makes of a bundle: RFC 9171, sections 5.10, 5.13, 6.1.1 and 6.2. When one is due, and what its
-- bundle looks like where the standard leaves that open, is this project's own.
use Rattle.std.specs.Prelude.{ℕ, ◌/◌, ◌%◌, ◌==◌, ◌&&◌, ◌||◌, Bool, true, false, not, if◌then◌else◌}
use Rattle.std.specs.Prelude.{List, [], ◌∷◌, length, Option, Some, None}
use Rattle.std.proofs.Common.{refl}
use Rattle.bp_eid.specs.declared.eid.Eid.{Eid}
use Rattle.bp_eid.specs.declared.eid.Eid.TheVariants as ids
use Rattle.bp_crc.specs.declared.kind.CheckKind.TheVariants as checks
use Rattle.bp_primary.specs.declared.primary.Primary.{Primary}
use Rattle.bp_primary.specs.declared.primary.Piece.{Piece}
use Rattle.bp_blocks.specs.declared.block.Block.{Block}
use Rattle.bp_bundle.specs.Shape.{Contents, payload}
use Rattle.bp_status.specs.declared.report.Assertion.{Assertion}
use Rattle.bp_status.specs.declared.report.Assertion.TheVariants.{No, Yes, At}
use Rattle.bp_status.specs.declared.report.Extent.{Extent}
use Rattle.bp_status.specs.declared.report.Report.{Report}
use Rattle.bp_status.specs.StatusReport.{spelling}
use Rattle.bpsec_node.specs.declared.event.Event.{Event}
use Rattle.bp_report.specs.declared.subject.Subject.{Subject}
use Rattle.bp_report.specs.Reason.{code_number, reason_of}

-- ---- what a report needs of the bundle that it is about: its primary block, and how many bytes its payload has

abbrev pub subject_of : Contents → Subject
subject_of bundle = record { primary = bundle.primary; length = length (payload bundle) }

-- ---- what a bundle's flags say (section 4.2.3)

-- 0x2: its payload is an administrative record
abbrev pub is_administrative : ℕ → Bool
is_administrative flags = flags / 0x2 % 2 == 1

-- 0x40: times are asked for in its status reports
abbrev pub asks_for_times : ℕ → Bool
asks_for_times flags = flags / 0x40 % 2 == 1

-- 0x4000: reports of its reception are asked for
abbrev pub asks_for_reception : ℕ → Bool
asks_for_reception flags = flags / 0x4000 % 2 == 1

-- 0x40000: reports of its deletion are asked for
abbrev pub asks_for_deletion : ℕ → Bool
asks_for_deletion flags = flags / 0x40000 % 2 == 1

-- ---- when a report is due

-- The node has received the bundle, and has deleted it where it discards it. It asserts each where it is asked to.
abbrev pub is_received : ℕ → Bool
is_received flags = asks_for_reception flags

abbrev pub is_deleted : ℕ → Bool → Bool
is_deleted flags discarded = asks_for_deletion flags && discarded

abbrev pub is_null : Eid → Bool
is_null ids.Null = true
is_null (ids.Dtn text) = false
is_null (ids.Ipn node service) = false

-- The bundle is no administrative record, it says where reports are sent, and something is asserted.
unfoldable pub is_due : Primary → Bool → Bool
is_due primary discarded =
    not (is_administrative primary.flags)
    && (not (is_null primary.report_to)
    && (is_received primary.flags || is_deleted primary.flags discarded))

-- ---- what is reported

-- an assertion, with the time where times are asked for
abbrev pub asserted : Bool → Bool → ℕ → Assertion
asserted made timed time = if made then (if timed then At time else Yes) else No

-- of a fragment where its payload begins, and how many bytes it has
abbrev pub extent_of : Option Piece → ℕ → Option Extent
extent_of None bytes = None
extent_of (Some piece) bytes = Some (record { offset = piece.offset; length = bytes })

-- Forwarding and delivery aren't asserted.
unfoldable pub status_of : Subject → List Event → Bool → ℕ → Report
status_of subject events discarded time = record {
  received = asserted (is_received subject.primary.flags) (asks_for_times subject.primary.flags) time;
  forwarded = No;
  delivered = No;
  deleted = asserted (is_deleted subject.primary.flags discarded) (asks_for_times subject.primary.flags) time;
  reason = code_number (reason_of events discarded);
  source = subject.primary.source;
  created = subject.primary.created;
  sequence = subject.primary.sequence;
  piece = extent_of subject.primary.fragment subject.length;
}

-- ---- the bundle of a report

-- An administrative record from the node to where the bundle has its reports sent. Of it itself no reports are asked for. It
-- has a CRC-32C, and the lifetime of the bundle.
abbrev pub report_primary : Primary → Eid → ℕ → ℕ → Primary
report_primary primary node time sequence = record {
  flags = 0x2;
  crc = checks.Crc32c;
  destination = primary.report_to;
  source = node;
  report_to = ids.Null;
  created = time;
  sequence = sequence;
  lifetime = primary.lifetime;
  fragment = None;
  fragmented = refl;
}

-- the payload block, without a check
abbrev pub report_block : Report → Block
report_block report = record { kind = 1; number = 1; flags = 0; crc = checks.None; body = spelling report }

unfoldable pub report_bundle : Primary → Eid → Report → ℕ → ℕ → Contents
report_bundle primary node report time sequence = record {
  primary = report_primary primary node time sequence;
  blocks = report_block report ∷ [];
}

-- ---- the report of a bundle, this node's id, the events, whether the bundle is discarded, the time and the sequence number

-- its bundle, exactly where a report is due
unfoldable pub due_report : Subject → Eid → List Event → Bool → ℕ → ℕ → Option Contents
due_report subject node events discarded time sequence =
    if is_due subject.primary discarded
    then Some (report_bundle subject.primary node (status_of subject events discarded time) time sequence)
    else None
