-- The text of a bundle: `version` (1), `primary` (an object), `blocks` (1 to 64 objects). The form is this project's own.
use Rattle.std.specs.Prelude.{◌≡◌, ℕ, ◌==◌, ◌&&◌, Bool, true, false, if◌then◌else◌, List, [], ◌∷◌, codes, Option, Some, None, is_some, Result, Ok, Err, refl}
use Rattle.cbor_profile.specs.Step.{◌>>=◌}
use Rattle.serde_json.specs.Data.{Data}
use Rattle.serde_json.specs.Find.{get}
use Rattle.bp_eid.specs.declared.eid.Eid.{Eid}
use Rattle.bp_crc.specs.declared.kind.CheckKind.{CheckKind}
use Rattle.bp_crc.specs.Item.{check_of}
use Rattle.bp_primary.specs.Flags.{is_fragment}
use Rattle.bp_primary.specs.declared.primary.Piece.{Piece}
use Rattle.bp_primary.specs.declared.primary.Primary.{Primary}
use Rattle.bp_blocks.specs.declared.block.Block.{Block}
use Rattle.bp_bundle.specs.declared.shape.ShapeFault.{ShapeFault}
use Rattle.bp_bundle.specs.declared.shape.ShapeFault.TheVariants.{TooManyBlocks, BadNumber, Repeated, NoPayloadLast, TooLong}
use Rattle.bp_bundle.specs.Shape.{Contents}
use Rattle.bp_bundle.specs.Faults.{shape_fault}
use Rattle.bp_text.specs.declared.fault.TextReason.{TextReason}
use Rattle.bp_text.specs.declared.fault.TextReason.TheVariants.{WrongShape, TooMany, NotABundle}
use Rattle.bp_text.specs.declared.fault.TextFault.{TextFault}
use Rattle.bp_text.specs.declared.shape.Kind.TheVariants.{Text, Number, Object, Array}
use Rattle.bp_text.specs.Fault.{unless, wanted, top}
use Rattle.bp_text.specs.Tree.{tree_of, number_at, list_at}
use Rattle.bp_text.specs.Shape.{has, has_only, passes}
use Rattle.bp_text.specs.Field.{eid_at, hex_at, whole_at}
use Rattle.bp_text.specs.Top.{version_at, is_short}
use Rattle.bp_text.specs.Entries.{entries_at}

abbrev pub most : ℕ
most = 18446744073709551615

-- ---- the primary block (RFC 9171, section 4.3.1): `flags`, `crc` (0 to 2), `to`, `from`, `report` (ids), `created`,
-- ---- `sequence`, `lifetime`, and `offset` and `total` exactly where the flags have bit 0

unfoldable pub has_nodes : Data → Bool
has_nodes d = has Text (codes "to") d && (has Text (codes "from") d && has Text (codes "report") d)

unfoldable pub has_times : Data → Bool
has_times d =
    has (Number most) (codes "created") d && (has (Number most) (codes "sequence") d && has (Number most) (codes "lifetime") d)

unfoldable pub has_place : Data → Bool
has_place d = has (Number most) (codes "offset") d && has (Number most) (codes "total") d

unfoldable pub has_whole_keys : Data → Bool
has_whole_keys d =
    has_only (codes "flags" ∷ codes "crc" ∷ codes "to" ∷ codes "from" ∷ codes "report" ∷ codes "created" ∷ codes "sequence"
    ∷ codes "lifetime" ∷ []) d

unfoldable pub has_fragment_keys : Data → Bool
has_fragment_keys d =
    has_only (codes "flags" ∷ codes "crc" ∷ codes "to" ∷ codes "from" ∷ codes "report" ∷ codes "created" ∷ codes "sequence"
    ∷ codes "lifetime" ∷ codes "offset" ∷ codes "total" ∷ []) d

-- the flags say that the bundle is a fragment (section 4.2.3)
abbrev pub is_of_fragment : Data → Bool
is_of_fragment d = passes is_fragment (number_at (codes "flags") d)

unfoldable pub has_keys : Data → Bool
has_keys d = if is_of_fragment d then has_fragment_keys d && has_place d else has_whole_keys d

unfoldable pub is_primary_shape : Data → Bool
is_primary_shape d =
    has_keys d && (has (Number most) (codes "flags") d && (has (Number 2) (codes "crc") d && (has_nodes d && has_times d)))

-- destination, source and report-to
unfoldable pub nodes_at : Data → Result (Eid × Eid × Eid) TextReason
nodes_at d = do
  destination ← eid_at (codes "to") d
  source ← eid_at (codes "from") d
  report_to ← eid_at (codes "report") d
  Ok (destination, source, report_to)

-- creation time, sequence number and lifetime
unfoldable pub times_at : Data → Result (ℕ × ℕ × ℕ) TextReason
times_at d = do
  created ← whole_at (codes "created") d
  sequence ← whole_at (codes "sequence") d
  lifetime ← whole_at (codes "lifetime") d
  Ok (created, sequence, lifetime)

-- the place of a fragment; of another bundle, where nothing is read, zeros
unfoldable pub place_at : Bool → Data → Result Piece TextReason
place_at false d = Ok (record { offset = 0; total = 0 })
place_at true d = do
  offset ← whole_at (codes "offset") d
  total ← whole_at (codes "total") d
  Ok (record { offset = offset; total = total })

-- a fragment has a place, and no other bundle has one
abbrev pub place_if : Bool → Piece → Option Piece
place_if fragmented place = if fragmented then Some place else None

pub place_if_flag : (fragmented : Bool) (place : Piece) → is_some (place_if fragmented place) ≡ fragmented
place_if_flag true place = refl
place_if_flag false place = refl

abbrev pub primary_of : ℕ → ℕ → Eid × Eid × Eid → ℕ × ℕ × ℕ → Piece → Primary
primary_of flags crc nodes times place = record {
  flags = flags;
  crc = check_of crc;
  destination = nodes.0;
  source = nodes.1;
  report_to = nodes.2;
  created = times.0;
  sequence = times.1;
  lifetime = times.2;
  fragment = place_if (is_fragment flags) place;
  fragmented = place_if_flag (is_fragment flags) place;
}

unfoldable pub primary_at : Data → Result Primary TextReason
primary_at d = do
  shape ← unless (is_primary_shape d) WrongShape
  flags ← whole_at (codes "flags") d
  crc ← whole_at (codes "crc") d
  nodes ← nodes_at d
  times ← times_at d
  place ← place_at (is_fragment flags) d
  Ok (primary_of flags crc nodes times place)

-- ---- a canonical block (RFC 9171, section 4.3.2): `type`, `number`, `flags`, `crc` (0 to 2), `body` (hexadecimal, 0 to
-- ---- 1,048,576 bytes)

unfoldable pub has_block_keys : Data → Bool
has_block_keys d = has_only (codes "type" ∷ codes "number" ∷ codes "flags" ∷ codes "crc" ∷ codes "body" ∷ []) d

unfoldable pub is_block_shape : Data → Bool
is_block_shape d =
    has_block_keys d && (has (Number most) (codes "type") d && (has (Number most) (codes "number") d
    && (has (Number most) (codes "flags") d && (has (Number 2) (codes "crc") d && has Text (codes "body") d))))

unfoldable pub block_at : Data → Result Block TextReason
block_at d = do
  shape ← unless (is_block_shape d) WrongShape
  kind ← whole_at (codes "type") d
  number ← whole_at (codes "number") d
  flags ← whole_at (codes "flags") d
  crc ← whole_at (codes "crc") d
  body ← hex_at 0 1048576 (codes "body") d
  Ok (record { kind = kind; number = number; flags = flags; crc = check_of crc; body = body })

-- ---- the bundle of these blocks, where there is one, else NotABundle, at the block that the first fault of its shape names

-- the index of the block that a fault names
abbrev pub index_of : ShapeFault → Option ℕ
index_of TooManyBlocks = None
index_of (BadNumber index) = Some index
index_of (Repeated index) = Some index
index_of NoPayloadLast = None
index_of TooLong = None

abbrev pub unless_fault : Option ShapeFault → Contents → Result Contents TextFault
unless_fault None bundle = Ok bundle
unless_fault (Some fault) bundle = Err (record { entry = index_of fault; reason = NotABundle })

abbrev pub bundle_of : Contents → Result Contents TextFault
bundle_of bundle = unless_fault (shape_fault bundle) bundle

-- ---- texts

unfoldable pub is_build_shape : Data → Bool
is_build_shape d =
    has_only (codes "version" ∷ codes "primary" ∷ codes "blocks" ∷ []) d
    && (has Object (codes "primary") d && has (Array 1) (codes "blocks") d)

unfoldable pub build_at : Data → Result Contents TextFault
build_at d = do
  version ← top (version_at (1 ∷ []) d)
  shape ← top (unless (is_build_shape d) WrongShape)
  short ← top (unless (is_short 64 (codes "blocks") d) TooMany)
  primary ← top (wanted WrongShape (get (codes "primary") d) >>= primary_at)
  list ← top (wanted WrongShape (list_at (codes "blocks") d))
  blocks ← entries_at block_at 0 [] list
  bundle_of (record { primary = primary; blocks = blocks })

-- the bundle that the bytes are the text of, or the first fault
abbrev pub build_of : List ℕ → Result Contents TextFault
build_of bytes = top (tree_of bytes) >>= build_at
