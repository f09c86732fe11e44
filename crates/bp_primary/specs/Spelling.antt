-- The spelling of a primary block: RFC 9171, section 4.3.1, with its check by section 4.2.1.
use Rattle.std.specs.Prelude.{ℕ, ◌+◌, ◌^◌, ◌<◌, List, ◌++◌}
use Rattle.std.specs.Option.{ForSome}
use Rattle.cbor_profile.specs.Put.{uint, array_head}
use Rattle.bp_crc.specs.Check.{check_bytes}
use Rattle.bp_crc.specs.Item.{check_type, check_count, check_item, zeros}
use Rattle.bp_eid.specs.EndpointId as ids
use Rattle.bp_primary.specs.declared.primary.Primary.{Primary}
use Rattle.bp_primary.specs.Fragment.{fragment_items, fragment_count}

-- the head of the array, version 7, flags, check type
unfoldable pub front : Primary → List ℕ
front primary = array_head (8 + fragment_count primary.fragment + check_count primary.crc) ++ uint 7 ++ uint primary.flags ++ uint (check_type primary.crc)

-- destination, source, report-to
unfoldable pub nodes : Primary → List ℕ
nodes primary = ids.spelling primary.destination ++ ids.spelling primary.source ++ ids.spelling primary.report_to

-- the creation timestamp as an array of time and sequence number (section 4.2.7), lifetime
unfoldable pub times : Primary → List ℕ
times primary = array_head 2 ++ uint primary.created ++ uint primary.sequence ++ uint primary.lifetime

-- The array of these, of the items of a fragment, and where there is a check, of the item with these bytes.
unfoldable pub array_with : Primary → List ℕ → List ℕ
array_with primary check = front primary ++ nodes primary ++ times primary ++ fragment_items primary.fragment ++ check_item primary.crc check

-- The check is over the whole array with the check's own bytes taken as zero.
unfoldable pub spelling : Primary → List ℕ
spelling primary = array_with primary (check_bytes primary.crc (array_with primary (zeros primary.crc)))

-- what every primary block keeps: numbers of 64 bits, and ids that have a spelling
pub record IsPrimary (primary : Primary) : Type 0 where
  pub flags : primary.flags < 2 ^ 64
  pub destination : ids.Fits primary.destination
  pub source : ids.Fits primary.source
  pub report_to : ids.Fits primary.report_to
  pub created : primary.created < 2 ^ 64
  pub sequence : primary.sequence < 2 ^ 64
  pub lifetime : primary.lifetime < 2 ^ 64
  pub fragment : ForSome primary.fragment (λ piece. (piece.offset < 2 ^ 64) × (piece.total < 2 ^ 64))
