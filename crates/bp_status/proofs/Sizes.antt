-- How long the spelling of a report is.
use Rattle.std.proofs.Common.{◌≡◌, ℕ, ◌+◌, List, length, Option, Some, None, refl, arith, length-append}
use Rattle.cbor_profile.specs.Put.{uint, array_head}
use Rattle.bp_eid.specs.EndpointId as ids
use Rattle.bp_status.specs.declared.report.Extent.{Extent}
use Rattle.bp_status.specs.declared.report.Report.{Report}
use Rattle.bp_status.specs.StatusReport.{assertion, extent_items, content_count, spelling}

length-two : length (array_head 2) ≡ 1
unfolding array_head
length-two = refl

length-four : length (array_head 4) ≡ 1
unfolding array_head
length-four = refl

length-kind : length (uint 1) ≡ 1
unfolding uint
length-kind = refl

length-count : (piece : Option Extent) → length (array_head (content_count piece)) ≡ 1
unfolding array_head
length-count None = refl
length-count (Some extent) = refl

pub length-spelling : (report : Report)
    → length (spelling report)
    ≡ 5 + (length (assertion report.received) + length (assertion report.forwarded) + length (assertion report.delivered) + length (assertion report.deleted)) + length (uint report.reason)
    + (length (ids.spelling report.source) + length (uint report.created) + length (uint report.sequence)) + length (extent_items report.piece)
unfolding spelling
length-spelling report =
    let two = length-two in
    let four = length-four in
    let kind = length-kind in
    let count = length-count report.piece in
    simp length-append (omega arith)
