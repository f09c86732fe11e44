-- Reading a bundle from the front of a byte list, token by token, up to its end or to the first token that isn't permitted
-- (RFC 9171, section 4).
use Rattle.std.specs.Prelude.{◌≡◌, ℕ, zero, suc, ◌+◌, ◌%◌, Bool, true, false, ◌==◌, nat_lt, if◌then◌else◌, List, [], ◌∷◌, ◌++◌, length, take, drop, is_some, Option, Some, None, Result, Ok, Err, bytes_eq, refl}
use Rattle.cbor_profile.specs.declared.fault.Reason.TheVariants.{NotBundle, Truncated, WrongKind, WrongCheck, TooLong, Trailing}
use Rattle.cbor_profile.specs.declared.fault.Fault.{Fault}
use Rattle.cbor_profile.specs.Step.{◌>>=◌}
use Rattle.bp_crc.specs.declared.kind.CheckKind.{CheckKind}
use Rattle.bp_crc.specs.declared.kind.CheckKind.TheVariants as kinds
use Rattle.bp_crc.specs.Check.{check_bytes}
use Rattle.bp_crc.specs.Item.{zeros, check_of}
use Rattle.bp_eid.specs.declared.eid.Eid.{Eid}
use Rattle.bp_eid.specs.declared.reading.EidAt.{EidAt}
use Rattle.bp_eid.specs.Reading.{read_id}
use Rattle.bp_primary.specs.declared.primary.Primary.{Primary}
use Rattle.bp_primary.specs.declared.primary.Piece.{Piece}
use Rattle.bp_primary.specs.Flags.{is_fragment}
use Rattle.bp_primary.specs.Spelling as primaries
use Rattle.bp_blocks.specs.declared.block.Block.{Block}
use Rattle.bp_blocks.specs.Spelling as blocks
use Rattle.bp_bundle.specs.declared.header.Header.{Header}
use Rattle.bp_bundle.specs.declared.token.Token.TheVariants.{PrimaryArray, Version, BundleFlags, CheckType, Pair, Number, CheckString, BlockArray, BlockType, BlockNumber, Body}
use Rattle.bp_bundle.specs.Shape.{Contents}
use Rattle.bp_bundle.specs.Faults.{is_payload}
use Rattle.bp_bundle.specs.Tokens.{Cursor, stops, argument_at}

-- ---- tokens that are no heads of the table

-- so many bytes further
abbrev pub past : ℕ → Cursor → Cursor
past count cursor = record { at = cursor.at + count; rest = drop count cursor.rest }

-- just this byte, else no byte is left, or another stands there
abbrev pub after_byte : ℕ → Result Cursor Fault → Cursor → List ℕ → Result Cursor Fault
after_byte byte otherwise cursor [] = stops cursor Truncated
after_byte byte otherwise cursor (first ∷ rest) = if first == byte then Ok (past 1 cursor) else otherwise

-- the byte that begins a bundle, and the one that ends it
unfoldable pub begin_at : Cursor → Result Cursor Fault
begin_at cursor = after_byte 0x9f (stops cursor NotBundle) cursor cursor.rest

unfoldable pub end_at : Cursor → Result Cursor Fault
end_at cursor = after_byte 0xff (stops cursor WrongKind) cursor cursor.rest

-- the content of a string
unfoldable pub content_at : ℕ → Cursor → Result (List ℕ × Cursor) Fault
content_at len cursor = if nat_lt (length cursor.rest) len then stops cursor Truncated else Ok (take len cursor.rest, past len cursor)

-- An endpoint id, by the rows of ids. A primary block has under 4 KB, so no head in it leaves too little room for the end.
abbrev pub after_id : Cursor → Result EidAt Fault → Result (Eid × Cursor) Fault
after_id cursor (Ok at) = Ok (at.eid, past at.len cursor)
after_id cursor (Err fault) = Err (record { place = cursor.at + fault.place; reason = fault.reason })

unfoldable pub id_at : Cursor → Result (Eid × Cursor) Fault
id_at cursor = after_id cursor (read_id cursor.rest)

-- ---- checks

-- a check type, not 0 exactly where there is an item for the check
unfoldable pub check_type_at : Bool → Cursor → Result (CheckKind × Cursor) Fault
check_type_at checked cursor = do
  type ← argument_at [] (CheckType checked) cursor
  Ok (check_of type.0, type.1)

-- a check: a byte string with just these bytes
unfoldable pub check_string_at : CheckKind → List ℕ → Cursor → Result Cursor Fault
check_string_at kind check cursor = do
  len ← argument_at [] (CheckString kind) cursor
  found ← content_at len.0 len.1
  if bytes_eq found.0 check then Ok found.1 else stops len.1 WrongCheck

-- the check of a block, where it has one
unfoldable pub check_at : CheckKind → List ℕ → Cursor → Result Cursor Fault
check_at kinds.None check cursor = Ok cursor
check_at kinds.Crc16 check cursor = check_string_at kinds.Crc16 check cursor
check_at kinds.Crc32c check cursor = check_string_at kinds.Crc32c check cursor

-- ---- the primary block (section 4.3.1)

-- the three ids: destination, source node, report-to
pub record Nodes : Type 0 where
  pub destination : Eid
  pub source : Eid
  pub report_to : Eid

unfoldable pub nodes_at : Cursor → Result (Nodes × Cursor) Fault
nodes_at cursor = do
  destination ← id_at cursor
  source ← id_at destination.1
  report_to ← id_at source.1
  Ok (record { destination = destination.0; source = source.0; report_to = report_to.0 }, report_to.1)

-- the creation timestamp (section 4.2.7) and the lifetime
pub record Times : Type 0 where
  pub created : ℕ
  pub sequence : ℕ
  pub lifetime : ℕ

unfoldable pub times_at : Cursor → Result (Times × Cursor) Fault
times_at cursor = do
  pair ← argument_at [] Pair cursor
  created ← argument_at [] Number pair.1
  sequence ← argument_at [] Number created.1
  lifetime ← argument_at [] Number sequence.1
  Ok (record { created = created.0; sequence = sequence.0; lifetime = lifetime.0 }, lifetime.1)

-- the fragment offset and the total length where the bundle is a fragment, else nothing, which counts as zeros
unfoldable pub piece_at : Bool → Cursor → Result (Piece × Cursor) Fault
piece_at false cursor = Ok (record { offset = 0; total = 0 }, cursor)
piece_at true cursor = do
  offset ← argument_at [] Number cursor
  total ← argument_at [] Number offset.1
  Ok (record { offset = offset.0; total = total.0 }, total.1)

-- a fragment's place is there exactly where the flag is set
abbrev pub piece_if : Bool → Piece → Option Piece
piece_if fragmented piece = if fragmented then Some piece else None

pub piece_if_flag : (fragmented : Bool) (piece : Piece) → is_some (piece_if fragmented piece) ≡ fragmented
piece_if_flag true piece = refl
piece_if_flag false piece = refl

abbrev pub primary_of : ℕ → CheckKind → Nodes → Times → Piece → Primary
primary_of flags crc nodes times piece = record {
  flags = flags;
  crc = crc;
  destination = nodes.destination;
  source = nodes.source;
  report_to = nodes.report_to;
  created = times.created;
  sequence = times.sequence;
  lifetime = times.lifetime;
  fragment = piece_if (is_fragment flags) piece;
  fragmented = piece_if_flag (is_fragment flags) piece;
}

-- the check of a primary block
abbrev pub primary_check : Primary → List ℕ
primary_check primary = check_bytes primary.crc (primaries.array_with primary (zeros primary.crc))

-- a primary block up to its check
unfoldable pub fields_at : Cursor → Result (Primary × Cursor) Fault
fields_at cursor = do
  items ← argument_at [] PrimaryArray cursor
  version ← argument_at [] Version items.1
  flags ← argument_at [] (BundleFlags items.0) version.1
  crc ← check_type_at (items.0 % 2 == 1) flags.1
  nodes ← nodes_at crc.1
  times ← times_at nodes.1
  piece ← piece_at (is_fragment flags.0) times.1
  Ok (primary_of flags.0 crc.0 nodes.0 times.0 piece.0, piece.1)

unfoldable pub primary_at : Cursor → Result (Primary × Cursor) Fault
primary_at cursor = do
  primary ← fields_at cursor
  after ← check_at primary.0.crc (primary_check primary.0) primary.1
  Ok (primary.0, after)

-- ---- canonical blocks (section 4.3.2)

-- a block up to its body, after these
unfoldable pub header_at : List Block → Cursor → Result (Header × Cursor) Fault
header_at before cursor = do
  items ← argument_at before BlockArray cursor
  kind ← argument_at before BlockType items.1
  number ← argument_at before (BlockNumber kind.0) kind.1
  flags ← argument_at before Number number.1
  crc ← check_type_at (items.0 == 6) flags.1
  len ← argument_at before Body crc.1
  Ok (record { kind = kind.0; number = number.0; flags = flags.0; crc = crc.0; len = len.0 }, len.1)

-- the block with this header and this body
abbrev pub block_of : Header → List ℕ → Block
block_of header body = record { kind = header.kind; number = header.number; flags = header.flags; crc = header.crc; body = body }

-- the check of a canonical block
abbrev pub block_check : Block → List ℕ
block_check block = check_bytes block.crc (blocks.array_with block (zeros block.crc))

-- what a block is followed by: the end after the payload block, else more blocks
abbrev pub next_at : (List Block → Cursor → Result (List Block × Cursor) Fault) → List Block → Block → Cursor → Result (List Block × Cursor) Fault
next_at more before block cursor =
    if is_payload block then (end_at cursor >>= λ after. Ok (before ++ block ∷ [], after))
    else more (before ++ block ∷ []) cursor

-- the rest of a block after its body
abbrev pub closed_at : (List Block → Cursor → Result (List Block × Cursor) Fault) → List Block → Block → Cursor → Result (List Block × Cursor) Fault
closed_at more before block cursor = check_at block.crc (block_check block) cursor >>= λ after. next_at more before block after

-- All the blocks up to the end, after these. So many more heads of blocks are looked at: the head of a 65th block isn't
-- permitted, so the last case is never met.
unfoldable pub blocks_at : ℕ → List Block → Cursor → Result (List Block × Cursor) Fault
blocks_at zero before cursor = stops cursor TooLong
blocks_at (suc more) before cursor = do
  header ← header_at before cursor
  body ← content_at header.0.len header.1
  closed_at (blocks_at more) before (block_of header.0 body.0) body.1

-- ---- bundles

-- the begin of a bundle and its primary block
unfoldable pub front_at : Cursor → Result (Primary × Cursor) Fault
front_at cursor = begin_at cursor >>= primary_at

-- a bundle, and what follows it
unfoldable pub bundle_at : Cursor → Result (Contents × Cursor) Fault
bundle_at cursor = do
  primary ← front_at cursor
  blocks ← blocks_at 65 [] primary.1
  Ok (record { primary = primary.0; blocks = blocks.0 }, blocks.1)

-- the bundle at the front of the bytes, and the bytes after it, or the first fault
unfoldable pub read_bundle : List ℕ → Result (Contents × Cursor) Fault
read_bundle bytes = bundle_at (record { at = 0; rest = bytes })

-- one bundle, and the end
abbrev pub end_of_input : Contents → Cursor → List ℕ → Result Contents Fault
end_of_input bundle cursor [] = Ok bundle
end_of_input bundle cursor (first ∷ rest) = stops cursor Trailing

unfoldable pub read_only : List ℕ → Result Contents Fault
read_only bytes = read_bundle bytes >>= λ x. end_of_input x.0 x.1 x.1.rest
