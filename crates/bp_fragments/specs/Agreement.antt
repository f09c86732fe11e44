-- Which fragments go together.
use Rattle.std.specs.Prelude.{◌≡◌, ℕ, ◌+◌, ◌≤◌, Bool, true, false, not, ◌==◌, ◌&&◌, nat_lt, nat_le, if◌then◌else◌, IsTrue, List, [], ◌∷◌, length, Option, Some, None, Contains, bytes_eq, option_map}
use Rattle.std.specs.List.{slice_get, find, list_all, zip}
use Rattle.std.specs.Option.{option_flatten}
use Rattle.cbor_profile.specs.declared.TheConstants.{BUNDLE_LIMIT}
use Rattle.bp_crc.specs.Item.{check_type}
use Rattle.bp_eid.specs.declared.eid.Eid.{Eid}
use Rattle.bp_eid.specs.declared.eid.Eid.TheVariants.{Null, Dtn, Ipn}
use Rattle.bp_primary.specs.declared.primary.Primary.{Primary}
use Rattle.bp_primary.specs.declared.primary.Piece.{Piece}
use Rattle.bp_primary.specs.Flags.{is_fragment}
use Rattle.bp_blocks.specs.declared.block.Block.{Block}
use Rattle.bp_bundle.specs.Shape.{Contents, payload}
use Rattle.bp_fragments.specs.Fragment.{piece_of, offset_of, total_of, with_payload}
use Rattle.bp_fragments.specs.Known.{byte_of, known}
use Rattle.bp_fragments.specs.declared.fault.AddFault.{AddFault}
use Rattle.bp_fragments.specs.declared.fault.AddFault.TheVariants.{NotFragment, OtherBundle, PastTotal, OverLimit, OtherBlocks, Disagree, TooMany, NoMemory}

-- ---- what is the same

abbrev pub same_id : Eid → Eid → Bool
same_id Null Null = true
same_id (Dtn a) (Dtn b) = bytes_eq a b
same_id (Ipn node service) (Ipn node' service') = (node == node') && (service == service')
same_id a b = false

abbrev pub same_ids : Primary → Primary → Bool
same_ids a b = same_id a.destination b.destination && same_id a.source b.source && same_id a.report_to b.report_to

abbrev pub same_times : Primary → Primary → Bool
same_times a b = (a.created == b.created) && (a.sequence == b.sequence) && (a.lifetime == b.lifetime)

-- the primary blocks are equal but for the offset
abbrev pub same_primary : Primary → Primary → Bool
same_primary a b =
    (a.flags == b.flags) && (check_type a.crc == check_type b.crc) && same_ids a b && same_times a b
    && ((piece_of a).total == (piece_of b).total)

abbrev pub same_header : Block → Block → Bool
same_header a b = (a.kind == b.kind) && (a.number == b.number) && (a.flags == b.flags) && (check_type a.crc == check_type b.crc)

abbrev pub same_block : Block → Block → Bool
same_block a b = same_header a b && bytes_eq a.body b.body

abbrev pub same_blocks : List Block → List Block → Bool
same_blocks xs ys = (length xs == length ys) && list_all (λ pair. same_block pair.0 pair.1) (zip xs ys)

-- ---- what fragments together tell

-- the blocks of a bundle without the payload's body
abbrev pub frame : Contents → List Block
frame bundle = with_payload [] bundle.blocks

abbrev pub is_first : Contents → Bool
is_first piece = offset_of piece == 0

-- The primary block of the first fragment of the list, the blocks of one of offset 0 without the payload's body, the payload
-- as far as it is known, and how many fragments there are.
pub record Gathered : Type 0 where
  pub primary : Option Primary
  pub frame : Option (List Block)
  pub known : List (Option ℕ)
  pub count : ℕ

unfoldable pub gathered : List Contents → Gathered
gathered pieces = record {
  primary = option_map (λ piece. piece.primary) (slice_get pieces 0);
  frame = option_map frame (find is_first pieces);
  known = known pieces;
  count = length pieces;
}

-- ---- why a fragment isn't taken to those that were

-- its primary block differs from the first one's in more than the offset
abbrev pub is_other_bundle : Option Primary → Primary → Bool
is_other_bundle None primary = false
is_other_bundle (Some first) primary = not (same_primary first primary)

-- another fragment of offset 0 has other blocks or another payload header
abbrev pub is_other_frame : Option (List Block) → List Block → Bool
is_other_frame None blocks = false
is_other_frame (Some kept) blocks = not (same_blocks kept blocks)

-- the first of these bytes, from this place on, that isn't the one that is known
abbrev pub clash_with : Option ℕ → ℕ → ℕ → Option AddFault → Option AddFault
clash_with None place given next = next
clash_with (Some kept) place given next = if kept == given then next else Some (Disagree place kept given)

abbrev pub clash_from : List (Option ℕ) → ℕ → List ℕ → Option AddFault
clash_from known place [] = None
clash_from known place (given ∷ more) = clash_with (option_flatten (slice_get known place)) place given (clash_from known (place + 1) more)

-- this fault, or what comes next
abbrev pub or_next : Option AddFault → Option AddFault → Option AddFault
or_next (Some fault) next = Some fault
or_next None next = next

-- its payload ends behind the whole
abbrev pub is_past : Piece → ℕ → Bool
is_past piece len = nat_lt piece.total (piece.offset + len)

-- The first of these that holds, of a fragment with this primary block, these blocks and this payload; a run has at most 256
-- fragments.
unfoldable pub refusal_of : Gathered → Primary → List Block → List ℕ → Option AddFault
refusal_of kept primary blocks body =
    if not (is_fragment primary.flags) then Some NotFragment
    else if is_other_bundle kept.primary primary then Some OtherBundle
    else if is_past (piece_of primary) (length body) then Some PastTotal
    else if nat_lt BUNDLE_LIMIT (piece_of primary).total then Some OverLimit
    else if ((piece_of primary).offset == 0) && is_other_frame kept.frame blocks then Some OtherBlocks
    else or_next (clash_from kept.known (piece_of primary).offset body)
    (if nat_le 256 kept.count then Some TooMany else None)

abbrev pub refusal : List Contents → Contents → Option AddFault
refusal pieces piece = refusal_of (gathered pieces) piece.primary (frame piece) (payload piece)

-- it is the fault, or memory ran out
abbrev pub IsRefusal : AddFault → Option AddFault → Type 0
IsRefusal NoMemory refused = Unit {0}
IsRefusal fault refused = refused ≡ Some fault

-- ---- fragments that agree

-- a fragment of a payload that isn't too long, within it
pub record IsPiece (piece : Contents) : Type 0 where
  pub fragment : IsTrue (is_fragment piece.primary.flags)
  pub within : offset_of piece + length (payload piece) ≤ total_of piece
  pub limit : total_of piece ≤ BUNDLE_LIMIT

-- two fragments of one bundle that have the same bytes where both have any
pub record Together (a b : Contents) : Type 0 where
  pub primary : IsTrue (same_primary a.primary b.primary)
  pub frame : offset_of a ≡ 0 → offset_of b ≡ 0 → frame a ≡ frame b
  pub bytes : (place x y : ℕ) → byte_of a place ≡ Some x → byte_of b place ≡ Some y → x ≡ y

-- The fragments agree, in whatever order, and however often each is there.
pub record Agree (pieces : List Contents) : Type 0 where
  pub each : (piece : Contents) → Contains pieces piece → IsPiece piece
  pub both : (a b : Contents) → Contains pieces a → Contains pieces b → Together a b
