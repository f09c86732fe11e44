-- Fragments joined: RFC 9171, section 5.9.
use Rattle.std.specs.Prelude.{◌≡◌, ℕ, ◌<◌, nat_lt, if◌then◌else◌, List, [], length, map, Option, Some, None, Result, Ok, Err, unwrap_or, is_none, Contains}
use Rattle.std.specs.List.{position, slice_get}
use Rattle.cbor_profile.specs.declared.TheConstants.{BUNDLE_LIMIT}
use Rattle.bp_primary.specs.declared.primary.Primary.{Primary}
use Rattle.bp_blocks.specs.declared.block.Block.{Block}
use Rattle.bp_bundle.specs.Shape.{Contents, payload}
use Rattle.bp_bundle.specs.Spelling.{spelling}
use Rattle.bp_fragments.specs.Fragment.{offset_of, total_of, with_payload}
use Rattle.bp_fragments.specs.Cut.{whole_primary}
use Rattle.bp_fragments.specs.Known.{byte_of, known}
use Rattle.bp_fragments.specs.Agreement.{Gathered, gathered}
use Rattle.bp_fragments.specs.declared.fault.FinishFault.{FinishFault}
use Rattle.bp_fragments.specs.declared.fault.FinishFault.TheVariants.{Empty, Gap, TooLong, NoMemory}

-- The whole: its primary block is no fragment's, the blocks and the payload's header are those of a fragment of offset 0, and
-- the payload has at each place the byte of a fragment that covers it.
abbrev pub whole_payload : List (Option ℕ) → List ℕ
whole_payload known = map (λ byte. unwrap_or byte 0) known

abbrev pub whole_with : Primary → Gathered → Contents
whole_with primary kept = record { primary = primary; blocks = with_payload (whole_payload kept.known) (unwrap_or kept.frame []) }

abbrev pub whole : Primary → Gathered → Contents
whole first kept = whole_with (whole_primary first) kept

abbrev pub within_limit : Contents → Result Contents FinishFault
within_limit bundle = if nat_lt BUNDLE_LIMIT (length (spelling bundle)) then Err TooLong else Ok bundle

-- no gap, or the least place that no fragment covers
abbrev pub gap_or : Option ℕ → Result Contents FinishFault → Result Contents FinishFault
gap_or (Some place) next = Err (Gap place)
gap_or None next = next

abbrev pub joined_by : Option Primary → Gathered → Result Contents FinishFault
joined_by None kept = Err Empty
joined_by (Some first) kept = gap_or (position is_none kept.known) (within_limit (whole first kept))

-- the bundle, or the first of these that holds
unfoldable pub joined_of : Gathered → Result Contents FinishFault
joined_of kept = joined_by kept.primary kept

abbrev pub joined : List Contents → Result Contents FinishFault
joined pieces = joined_of (gathered pieces)

-- it is the fault, or memory ran out
abbrev pub IsJoinFault : FinishFault → Result Contents FinishFault → Type 0
IsJoinFault NoMemory answer = Unit {0}
IsJoinFault fault answer = answer ≡ Err fault

-- a bundle with this primary block, and with these blocks and this payload, of which all is known
abbrev pub IsWhole : Contents → Primary → Option (List Block) → List (Option ℕ) → Type 0
IsWhole bundle primary None known = ⊥
IsWhole bundle primary (Some frame) known =
    (0 < length frame) × (position is_none known ≡ None) × (bundle ≡ record { primary = primary; blocks = with_payload (whole_payload known) frame })

-- The same in words that know no order: what a bundle is that has each fragment as a part, where they leave no gap.
pub record IsJoined (pieces : List Contents) (bundle : Contents) : Type 0 where
  pub primary : (piece : Contents) → Contains pieces piece → bundle.primary ≡ whole_primary piece.primary
  pub blocks : (piece : Contents) → Contains pieces piece → offset_of piece ≡ 0 → bundle.blocks ≡ with_payload (payload bundle) piece.blocks
  pub size : (piece : Contents) → Contains pieces piece → length (payload bundle) ≡ total_of piece
  pub bytes : (piece : Contents) (place byte : ℕ) → Contains pieces piece → byte_of piece place ≡ Some byte → slice_get (payload bundle) place ≡ Some byte
