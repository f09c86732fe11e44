-- Reading the part at the front of what is left of a stream, field by field from the left (RFC 9174, sections 4.2 to 6.1),
-- up to its end, to the first fault, or to where more bytes are wanted. That a fault has a place and just one reason, and
-- the limits, are this project's.
use Rattle.std.specs.Prelude.{ℕ, ◌+◌, ◌-◌, ◌^◌, Bool, true, false, ◌==◌, nat_lt, if◌then◌else◌, List, [], length, take, drop, Option, Some, None, Result, Ok, Err}
use Rattle.std.specs.Int.{Width, w8, w16, w32, w64, byte_len}
use Rattle.cbor_profile.specs.declared.TheConstants.{BUNDLE_LIMIT}
use Rattle.cbor_profile.specs.Step.{◌>>=◌}
use Rattle.bp_tcpcl.specs.declared.TheConstants.{EXTENSIONS_LIMIT, INPUT_LIMIT}
use Rattle.bp_tcpcl.specs.declared.reason.LinkReason.{LinkReason}
use Rattle.bp_tcpcl.specs.declared.reason.LinkReason.TheVariants.{NotContact, Version, UnknownMessage, TooLong, TooMuch}
use Rattle.bp_tcpcl.specs.declared.message.Message.TheVariants.{Init, Segment, Ack, Refuse, KeepAlive, Term, Reject}
use Rattle.bp_tcpcl.specs.declared.message.Item.{Item}
use Rattle.bp_tcpcl.specs.declared.message.Item.TheVariants as items
use Rattle.bp_tcpcl.specs.declared.stop.Stop.{Stop}
use Rattle.bp_tcpcl.specs.declared.stop.Stop.TheVariants.{More, Fault}
use Rattle.bp_tcpcl.specs.Numbers.{number_in}
use Rattle.bp_tcpcl.specs.Spelling.{is_start}

-- ---- places

-- Where a part begins, where its next field begins, and the bytes from there on. Places count the bytes of the input before.
pub record Cursor : Type 0 where
  pub begin : ℕ
  pub at : ℕ
  pub rest : List ℕ

-- so many bytes further
abbrev pub past : ℕ → Cursor → Cursor
past count cursor = record { begin = cursor.begin; at = cursor.at + count; rest = drop count cursor.rest }

abbrev pub faulty : {A : Type 0} → ℕ → LinkReason → Result A Stop
faulty place reason = Err (Fault place reason)

-- ---- fields

-- a field decides when all its bytes are there
abbrev pub wanted : {A : Type 0} → Option A → Result A Stop
wanted None = Err More
wanted (Some x) = Ok x

-- After a field: the part doesn't end past the limit, where the fields that are still to come have so many bytes at least.
unfoldable pub within : ℕ → Cursor → Result Cursor Stop
within to_come cursor = if nat_lt INPUT_LIMIT (cursor.at + to_come) then faulty cursor.begin TooMuch else Ok cursor

-- a number, and what follows it
unfoldable pub number_at : Width → ℕ → Cursor → Result (ℕ × Cursor) Stop
number_at w to_come cursor = do
  value ← wanted (number_in w cursor.rest)
  after ← within to_come (past (byte_len w) cursor)
  Ok (value, after)

-- so many bytes, and what follows them
unfoldable pub bytes_at : ℕ → ℕ → Cursor → Result (List ℕ × Cursor) Stop
bytes_at len to_come cursor =
    if nat_lt (length cursor.rest) len then Err More
    else within to_come (past len cursor) >>= λ after. Ok (take len cursor.rest, after)

-- the content behind a length of so many bytes: a length above the limit is the first fault
unfoldable pub content_at : ℕ → ℕ → ℕ → ℕ → Cursor → Result (List ℕ × Cursor) Stop
content_at len size limit to_come cursor =
    if nat_lt limit len then faulty cursor.at TooLong
    else within (len + to_come) (past size cursor) >>= bytes_at len to_come

-- a length and as many bytes
unfoldable pub sized_at : Width → ℕ → ℕ → Cursor → Result (List ℕ × Cursor) Stop
sized_at w limit to_come cursor = do
  len ← wanted (number_in w cursor.rest)
  content_at len (byte_len w) limit to_come cursor

-- ---- the contact header

-- one of the first four bytes
unfoldable pub mark_at : ℕ → Cursor → Result Cursor Stop
mark_at byte cursor = do
  found ← wanted (number_in w8 cursor.rest)
  if found == byte then Ok (past 1 cursor) else faulty cursor.begin NotContact

-- the flags, any byte
abbrev pub flags_at : Cursor → Result (Item × Cursor) Stop
flags_at cursor = number_at w8 0 cursor >>= λ flags. Ok (items.Contact flags.0, flags.1)

unfoldable pub contact_at : Cursor → Result (Item × Cursor) Stop
contact_at cursor = do
  first ← mark_at 0x64 cursor
  second ← mark_at 0x74 first
  third ← mark_at 0x6e second
  fourth ← mark_at 0x21 third
  version ← wanted (number_in w8 fourth.rest)
  if version == 4 then flags_at (past 1 fourth) else faulty fourth.at Version

-- ---- messages, behind their first byte

unfoldable pub init_at : Cursor → Result (Item × Cursor) Stop
init_at cursor = do
  keepalive ← number_at w16 22 cursor
  segment_mru ← number_at w64 14 keepalive.1
  transfer_mru ← number_at w64 6 segment_mru.1
  node ← sized_at w16 (2 ^ 16 - 1) 4 transfer_mru.1
  extensions ← sized_at w32 EXTENSIONS_LIMIT 0 node.1
  Ok (items.Message (Init keepalive.0 segment_mru.0 transfer_mru.0 node.0 extensions.0), extensions.1)

-- extensions stand just in a segment with START; the length of the data is still to come
unfoldable pub extensions_at : Bool → Cursor → Result (List ℕ × Cursor) Stop
extensions_at false cursor = Ok ([], cursor)
extensions_at true cursor = sized_at w32 EXTENSIONS_LIMIT 8 cursor

-- the least bytes of the extensions and their length
abbrev pub least_extensions : Bool → ℕ
least_extensions false = 0
least_extensions true = 4

-- what follows the flags
unfoldable pub transfer_at : ℕ → Bool → Cursor → Result (Item × Cursor) Stop
transfer_at flags start cursor = do
  transfer ← number_at w64 (8 + least_extensions start) cursor
  extensions ← extensions_at start transfer.1
  content ← sized_at w64 BUNDLE_LIMIT 0 extensions.1
  Ok (items.Message (Segment flags transfer.0 extensions.0 content.0), content.1)

unfoldable pub segment_at : Cursor → Result (Item × Cursor) Stop
segment_at cursor = do
  flags ← wanted (number_in w8 cursor.rest)
  rest ← within (16 + least_extensions (is_start flags)) (past 1 cursor)
  transfer_at flags (is_start flags) rest

unfoldable pub ack_at : Cursor → Result (Item × Cursor) Stop
ack_at cursor = do
  flags ← number_at w8 16 cursor
  transfer ← number_at w64 8 flags.1
  length ← number_at w64 0 transfer.1
  Ok (items.Message (Ack flags.0 transfer.0 length.0), length.1)

unfoldable pub refuse_at : Cursor → Result (Item × Cursor) Stop
refuse_at cursor = do
  reason ← number_at w8 8 cursor
  transfer ← number_at w64 0 reason.1
  Ok (items.Message (Refuse reason.0 transfer.0), transfer.1)

unfoldable pub term_at : Cursor → Result (Item × Cursor) Stop
term_at cursor = do
  flags ← number_at w8 1 cursor
  reason ← number_at w8 0 flags.1
  Ok (items.Message (Term flags.0 reason.0), reason.1)

unfoldable pub reject_at : Cursor → Result (Item × Cursor) Stop
reject_at cursor = do
  reason ← number_at w8 1 cursor
  header ← number_at w8 0 reason.1
  Ok (items.Message (Reject reason.0 header.0), header.1)

-- nothing follows
abbrev pub keepalive_at : Cursor → Result (Item × Cursor) Stop
keepalive_at cursor = Ok (items.Message KeepAlive, cursor)

-- ---- parts

-- by the first byte, which stands at this place; the fields of each kind have so many bytes at least
abbrev pub kind_at : ℕ → ℕ → Cursor → Result (Item × Cursor) Stop
kind_at kind place rest =
    if kind == 1 then within 17 rest >>= segment_at
    else if kind == 2 then within 17 rest >>= ack_at
    else if kind == 3 then within 9 rest >>= refuse_at
    else if kind == 4 then within 0 rest >>= keepalive_at
    else if kind == 5 then within 2 rest >>= term_at
    else if kind == 6 then within 2 rest >>= reject_at
    else if kind == 7 then within 24 rest >>= init_at
    else faulty place UnknownMessage

unfoldable pub message_at : Cursor → Result (Item × Cursor) Stop
message_at cursor = do
  kind ← wanted (number_in w8 cursor.rest)
  kind_at kind cursor.at (past 1 cursor)

-- The next part: a message behind the contact header, which comes first.
unfoldable pub part_at : Bool → Cursor → Result (Item × Cursor) Stop
part_at opened cursor = if opened then message_at cursor else contact_at cursor

-- what stands at the front of these bytes, which begin at this place of the input
abbrev pub front_at : Bool → ℕ → List ℕ → Result (Item × Cursor) Stop
front_at opened place bytes = part_at opened (record { begin = place; at = place; rest = bytes })
