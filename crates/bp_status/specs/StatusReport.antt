-- Bundle status reports: RFC 9171, section 6.1.1, as administrative records (section 6.1). That the status information has
-- exactly four items is this profile's.
use Rattle.std.specs.Prelude.{◌≡◌, ℕ, ◌^◌, ◌<◌, true, false, List, [], ◌++◌, Option, Some, None}
use Rattle.std.specs.Option.{ForSome}
use Rattle.cbor_profile.specs.Put.{uint, array_head, truth}
use Rattle.bp_eid.specs.EndpointId as ids
use Rattle.bp_status.specs.declared.report.Assertion.{Assertion}
use Rattle.bp_status.specs.declared.report.Assertion.TheVariants.{No, Yes, At}
use Rattle.bp_status.specs.declared.report.Extent.{Extent}
use Rattle.bp_status.specs.declared.report.Report.{Report}

-- ---- spelling

-- An assertion: an array of a truth value, and where the report says when, of the time.
abbrev pub assertion : Assertion → List ℕ
assertion No = array_head 1 ++ truth false
assertion Yes = array_head 1 ++ truth true
assertion (At time) = array_head 2 ++ (truth true ++ uint time)

-- the status information: received, forwarded, delivered and deleted
abbrev pub information : Assertion → Assertion → Assertion → Assertion → List ℕ
information received forwarded delivered deleted =
    array_head 4 ++ (assertion received ++ (assertion forwarded ++ (assertion delivered ++ assertion deleted)))

-- a creation timestamp: the time and the sequence number (section 4.2.7)
abbrev pub timestamp : ℕ → ℕ → List ℕ
timestamp created sequence = array_head 2 ++ (uint created ++ uint sequence)

-- of a fragment, where its payload begins and how long it is
abbrev pub extent_items : Option Extent → List ℕ
extent_items None = []
extent_items (Some extent) = uint extent.offset ++ uint extent.length

-- what names the bundle that the report is about
abbrev pub subject_items : Report → List ℕ
subject_items report = ids.spelling report.source ++ (timestamp report.created report.sequence ++ extent_items report.piece)

-- how many items the content has
abbrev pub content_count : Option Extent → ℕ
content_count None = 4
content_count (Some extent) = 6

-- The record: an array of the type 1 and the content. The content: an array of the status information, the reason code, the
-- source and the creation timestamp of the bundle that it is about, and its extent where that is a fragment.
unfoldable pub spelling : Report → List ℕ
spelling report =
    array_head 2
    ++ (uint 1
    ++ (array_head (content_count report.piece)
    ++ (information report.received report.forwarded report.delivered report.deleted
    ++ (uint report.reason
    ++ subject_items report))))

-- ---- what every report keeps

abbrev pub IsAssertion : Assertion → Type 0
IsAssertion No = Unit {0}
IsAssertion Yes = Unit {0}
IsAssertion (At time) = time < 2 ^ 64

abbrev pub IsExtent : Extent → Type 0
IsExtent extent = (extent.offset < 2 ^ 64) × (extent.length < 2 ^ 64)

-- numbers of 64 bits, and an id
pub record IsReport (report : Report) : Type 0 where
  pub received : IsAssertion report.received
  pub forwarded : IsAssertion report.forwarded
  pub delivered : IsAssertion report.delivered
  pub deleted : IsAssertion report.deleted
  pub reason : report.reason < 2 ^ 64
  pub source : ids.Fits report.source
  pub created : report.created < 2 ^ 64
  pub sequence : report.sequence < 2 ^ 64
  pub piece : ForSome report.piece IsExtent

-- the record is the spelling of this report
abbrev pub Reads : List ℕ → Report → Type 0
Reads body report = IsReport report × (body ≡ spelling report)
