-- The parts of one side's stream in a session of the TCP convergence layer, version 4, and the bytes of each: RFC 9174,
-- sections 4.2 and 4.6, 5.1.1, 5.1.2, 5.2.2, 5.2.3, 5.2.4 and 6.1. The limits on lengths are this project's.
use Rattle.std.specs.Prelude.{◌≡◌, ℕ, ◌/◌, ◌%◌, ◌^◌, ◌<◌, ◌≤◌, Bool, true, false, ◌==◌, List, [], ◌∷◌, ◌++◌, length}
use Rattle.std.specs.Int.{Width, w8, w16, w32, w64}
use Rattle.cbor_profile.specs.declared.TheConstants.{BUNDLE_LIMIT}
use Rattle.bp_tcpcl.specs.declared.TheConstants.{EXTENSIONS_LIMIT}
use Rattle.bp_tcpcl.specs.declared.message.Message.{Message}
use Rattle.bp_tcpcl.specs.declared.message.Message.TheVariants.{Init, Segment, Ack, Refuse, KeepAlive, Term, Reject}
use Rattle.bp_tcpcl.specs.declared.message.Item.{Item}
use Rattle.bp_tcpcl.specs.declared.message.Item.TheVariants as items
use Rattle.bp_tcpcl.specs.Numbers.{number}

-- ---- the table of parts

-- content behind its length
abbrev pub sized : Width → List ℕ → List ℕ
sized w content = number w (length content) ++ content

-- the flag START of a segment: bit 0x02
abbrev pub is_start : ℕ → Bool
is_start flags = flags / 2 % 2 == 1

-- just the first segment of a transfer has room for extensions
abbrev pub extension_field : Bool → List ℕ → List ℕ
extension_field true extensions = sized w32 extensions
extension_field false extensions = []

-- what follows the first byte
abbrev pub fields : Message → List ℕ
fields (Init keepalive segment_mru transfer_mru node extensions) =
    number w16 keepalive ++ (number w64 segment_mru ++ (number w64 transfer_mru ++ (sized w16 node ++ sized w32 extensions)))
fields (Segment flags transfer extensions content) =
    number w8 flags ++ (number w64 transfer ++ (extension_field (is_start flags) extensions ++ sized w64 content))
fields (Ack flags transfer length) = number w8 flags ++ (number w64 transfer ++ number w64 length)
fields (Refuse reason transfer) = number w8 reason ++ number w64 transfer
fields KeepAlive = []
fields (Term flags reason) = number w8 flags ++ number w8 reason
fields (Reject reason header) = number w8 reason ++ number w8 header

-- the first byte
abbrev pub kind : Message → ℕ
kind (Segment flags transfer extensions content) = 1
kind (Ack flags transfer length) = 2
kind (Refuse reason transfer) = 3
kind KeepAlive = 4
kind (Term flags reason) = 5
kind (Reject reason header) = 6
kind (Init keepalive segment_mru transfer_mru node extensions) = 7

unfoldable pub message_bytes : Message → List ℕ
message_bytes message = number w8 (kind message) ++ fields message

-- The contact header is `dtn!`, the version and the flags.
unfoldable pub item_bytes : Item → List ℕ
item_bytes (items.Contact flags) = number w8 0x64 ++ (number w8 0x74 ++ (number w8 0x6e ++ (number w8 0x21 ++ (number w8 4 ++ number w8 flags))))
item_bytes (items.Message message) = message_bytes message

-- parts one after the other
unfoldable pub stream_bytes : List Item → List ℕ
stream_bytes [] = []
stream_bytes (item ∷ more) = item_bytes item ++ stream_bytes more

-- ---- what every message keeps

-- numbers fit their fields
unfoldable pub Fits : Message → Type 0
Fits (Init keepalive segment_mru transfer_mru node extensions) = (keepalive < 2 ^ 16) × (segment_mru < 2 ^ 64) × (transfer_mru < 2 ^ 64)
Fits (Segment flags transfer extensions content) = (flags < 2 ^ 8) × (transfer < 2 ^ 64)
Fits (Ack flags transfer length) = (flags < 2 ^ 8) × (transfer < 2 ^ 64) × (length < 2 ^ 64)
Fits (Refuse reason transfer) = (reason < 2 ^ 8) × (transfer < 2 ^ 64)
Fits KeepAlive = Unit {0}
Fits (Term flags reason) = (flags < 2 ^ 8) × (reason < 2 ^ 8)
Fits (Reject reason header) = (reason < 2 ^ 8) × (header < 2 ^ 8)

-- A node id has a length of two bytes, extensions and content keep their limits, and a segment without START has no
-- extensions.
abbrev pub KeepsLimits : Message → Type 0
KeepsLimits (Init keepalive segment_mru transfer_mru node extensions) = (length node < 2 ^ 16) × (length extensions ≤ EXTENSIONS_LIMIT)
KeepsLimits (Segment flags transfer extensions content) =
    (length extensions ≤ EXTENSIONS_LIMIT) × (length content ≤ BUNDLE_LIMIT) × (is_start flags ≡ false → extensions ≡ [])
KeepsLimits (Ack flags transfer length) = Unit {0}
KeepsLimits (Refuse reason transfer) = Unit {0}
KeepsLimits KeepAlive = Unit {0}
KeepsLimits (Term flags reason) = Unit {0}
KeepsLimits (Reject reason header) = Unit {0}

-- ---- what a stream is

-- The contact header stands first, and a message behind it.
unfoldable pub IsPart : Bool → Item → Type 0
IsPart false (items.Contact flags) = flags < 2 ^ 8
IsPart false (items.Message message) = ⊥
IsPart true (items.Contact flags) = ⊥
IsPart true (items.Message message) = Fits message × KeepsLimits message

-- A stream is the contact header and then messages. The first says whether the header stood before.
unfoldable pub IsStream : Bool → List Item → Type 0
IsStream opened [] = Unit {0}
IsStream opened (item ∷ more) = IsPart opened item × IsStream true more

-- whether the contact header is among the parts of a stream
abbrev pub is_opened : List Item → Bool
is_opened [] = false
is_opened (item ∷ more) = true
