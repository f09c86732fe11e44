-- A bundle cut into fragments: RFC 9171, section 5.8.
use Rattle.std.specs.Prelude.{◌≡◌, ℕ, zero, suc, ◌+◌, ◌-◌, ◌*◌, ◌/◌, ◌%◌, Bool, true, false, ◌==◌, ◌||◌, nat_lt, if◌then◌else◌, List, [], ◌∷◌, ◌++◌, length, take, drop, map, filter, Option, Some, None}
use Rattle.std.proofs.Common.{refl, arith, sym, eqb, eq-eqb}
use Rattle.cbor_profile.specs.declared.TheConstants.{BUNDLE_LIMIT}
use Rattle.bp_primary.specs.declared.primary.Primary.{Primary}
use Rattle.bp_primary.specs.declared.primary.Piece.{Piece}
use Rattle.bp_primary.specs.Flags.{is_fragment}
use Rattle.bp_blocks.specs.declared.block.Block.{Block}
use Rattle.bp_bundle.specs.Shape.{Contents, payload}
use Rattle.bp_bundle.specs.Spelling.{spelling}
use Rattle.bp_bundle.specs.Faults.{is_payload}
use Rattle.bp_fragments.specs.Fragment.{with_payload, is_replicated}
use Rattle.bp_fragments.specs.declared.cut.CutFault.{CutFault}
use Rattle.bp_fragments.specs.declared.cut.CutFault.TheVariants.{IsFragment, MustNotFragment, PieceZero, TooMany, TooLong}

-- ---- the primary block of a fragment, and that of a whole bundle

-- bundle flag 0x1 set, and clear (section 4.2.3)
abbrev pub fragment_flags : ℕ → ℕ
fragment_flags flags = flags - flags % 2 + 1

abbrev pub whole_flags : ℕ → ℕ
whole_flags flags = flags - flags % 2

pub fragment_flags_are : (flags : ℕ) → true ≡ is_fragment (fragment_flags flags)
fragment_flags_are flags = sym (eq-eqb ((flags - flags % 2 + 1) % 2) 1 (omega arith))

pub whole_flags_are : (flags : ℕ) → false ≡ is_fragment (whole_flags flags)
whole_flags_are flags = not_one ((flags - flags % 2) % 2) (omega arith)
  where
    not_one : (n : ℕ) → n ≡ 0 → false ≡ eqb n 1
    not_one zero is = refl
    not_one (suc n) is = absurd (omega arith)

-- a fragment at this place of the whole payload
abbrev pub fragment_primary : Piece → Primary → Primary
fragment_primary piece primary = record {
  flags = fragment_flags primary.flags;
  crc = primary.crc;
  destination = primary.destination;
  source = primary.source;
  report_to = primary.report_to;
  created = primary.created;
  sequence = primary.sequence;
  lifetime = primary.lifetime;
  fragment = Some piece;
  fragmented = fragment_flags_are primary.flags;
}

-- no fragment
abbrev pub whole_primary : Primary → Primary
whole_primary primary = record {
  flags = whole_flags primary.flags;
  crc = primary.crc;
  destination = primary.destination;
  source = primary.source;
  report_to = primary.report_to;
  created = primary.created;
  sequence = primary.sequence;
  lifetime = primary.lifetime;
  fragment = None;
  fragmented = whole_flags_are primary.flags;
}

-- ---- the cut

-- The first fragment has all blocks; the others have those that are replicated and the payload block. Headers and check
-- types stay.
abbrev pub is_kept : ℕ → Block → Bool
is_kept index block = (index == 0) || (is_replicated block || is_payload block)

-- the fragment with this index: so many bytes of the payload from there on, or fewer at the end
unfoldable pub fragment_at : Contents → ℕ → ℕ → Contents
fragment_at bundle size index = record {
  primary = fragment_primary (record { offset = index * size; total = length (payload bundle) }) bundle.primary;
  blocks = with_payload (take size (drop (index * size) (payload bundle))) (filter (is_kept index) bundle.blocks);
}

-- how many fragments: an empty payload is one piece
abbrev pub piece_count : ℕ → ℕ → ℕ
piece_count size len = if len == 0 then 1 else (len - 1) / size + 1

-- the numbers below this one, in their order
abbrev pub below : ℕ → List ℕ
below zero = []
below (suc n) = below n ++ n ∷ []

unfoldable pub cut : Contents → ℕ → List Contents
cut bundle size = map (fragment_at bundle size) (below (piece_count size (length (payload bundle))))

-- ---- why a bundle isn't cut

-- bundle flag 0x4: it must not be fragmented
abbrev pub must_not_fragment : ℕ → Bool
must_not_fragment flags = flags / 4 % 2 == 1

-- the first of these that holds; a run has at most 256 fragments
unfoldable pub cut_fault : Contents → ℕ → Option CutFault
cut_fault bundle size =
    if is_fragment bundle.primary.flags then Some IsFragment
    else if must_not_fragment bundle.primary.flags then Some MustNotFragment
    else if size == 0 then Some PieceZero
    else if nat_lt (256 * size) (length (payload bundle)) then Some TooMany
    else if nat_lt BUNDLE_LIMIT (length (spelling (fragment_at bundle size 0))) then Some TooLong
    else None
