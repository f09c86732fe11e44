-- What an operation covers: RFC 9173, sections 3.7 (integrity) and 4.7.2 (confidentiality).
use Rattle.std.specs.Prelude.{ℕ, ◌%◌, Bool, not, ◌==◌, ◌&&◌, if◌then◌else◌, bit_and, List, [], ◌++◌, Option, Some, None}
use Rattle.cbor_profile.specs.Put.{uint, byte_string}
use Rattle.bp_primary.specs.declared.primary.Primary.{Primary}
use Rattle.bp_primary.specs.Spelling as primary_blocks
use Rattle.bpsec_scope.specs.declared.header.Header.{Header}
use Rattle.bpsec_scope.specs.Target.{Target, PrimaryBlock, Body, Sealed, is_primary}
use Rattle.bpsec_scope.specs.Parts.{Parts}

-- ---- the covered record

-- The block processing control flags that are assigned: 0x1, 0x2, 0x4 and 0x10 (RFC 9171, section 4.2.4). All others are
-- taken as zero (RFC 9172, section 4).
abbrev pub assigned_flags : ℕ → ℕ
assigned_flags flags = bit_and flags 0x17

-- a header with the assigned flags alone
abbrev pub assigned : Header → Header
assigned header = record { kind = header.kind; number = header.number; flags = assigned_flags header.flags }

abbrev pub assigned_header : Option Header → Option Header
assigned_header None = None
assigned_header (Some header) = Some (assigned header)

-- the target itself, as far as the operation covers it: the primary block, a body, or nothing
pub data Content : Type 0 where
  Block : Primary → Content
  Bytes : List ℕ → Content
  Nothing : Content

-- The covered record: the scope flags, what they select, and the content.
pub record Scoped : Type 0 where
  pub scope : ℕ
  pub primary : Option Primary
  pub target_header : Option Header
  pub security_header : Option Header
  pub content : Content

-- The scope flags (RFC 9173, sections 3.3.3 and 4.3.4): 0x1 is the primary block, 0x2 the target's header, 0x4 the security
-- block's header. All others are taken as zero.
abbrev pub scope_flags : ℕ → ℕ
scope_flags scope = scope % 8

abbrev pub has_flag : ℕ → ℕ → Bool
has_flag flags flag = bit_and flags flag == flag

-- What the scope flags select. A primary block that is itself the target stands in the record as content alone.
abbrev pub selected_primary : ℕ → Parts → Option Primary
selected_primary flags parts = if has_flag flags 0x1 && not (is_primary parts.target) then Some parts.primary else None

abbrev pub selected_target_header : ℕ → Parts → Option Header
selected_target_header flags parts = if has_flag flags 0x2 && not (is_primary parts.target) then assigned_header parts.target_header else None

abbrev pub selected_security_header : ℕ → Parts → Option Header
selected_security_header flags parts = if has_flag flags 0x4 then Some (assigned parts.security_header) else None

abbrev pub content_of : Primary → Target → Content
content_of primary PrimaryBlock = Block primary
content_of primary (Body body) = Bytes body
content_of primary Sealed = Nothing

unfoldable pub scoped : Parts → ℕ → Scoped
scoped parts scope = record {
  scope = scope_flags scope;
  primary = selected_primary (scope_flags scope) parts;
  target_header = selected_target_header (scope_flags scope) parts;
  security_header = selected_security_header (scope_flags scope) parts;
  content = content_of parts.primary parts.target;
}

-- ---- its spelling

-- a header: type, number, flags
abbrev pub header_items : Option Header → List ℕ
header_items None = []
header_items (Some header) = uint header.kind ++ uint header.number ++ uint header.flags

abbrev pub primary_items : Option Primary → List ℕ
primary_items None = []
primary_items (Some primary) = primary_blocks.spelling primary

-- the whole primary block as it is spelled in the bundle, or the body as a byte string
abbrev pub content_items : Content → List ℕ
content_items (Block primary) = primary_blocks.spelling primary
content_items (Bytes body) = byte_string body
content_items Nothing = []

-- the scope flags and what they select
unfoldable pub front : Scoped → List ℕ
front covered = uint covered.scope ++ primary_items covered.primary ++ header_items covered.target_header ++ header_items covered.security_header

-- the integrity-protected plaintext (RFC 9173, section 3.7)
unfoldable pub ippt : Scoped → List ℕ
ippt covered = front covered ++ content_items covered.content

-- the additional authenticated data (RFC 9173, section 4.7.2)
unfoldable pub aad : Scoped → List ℕ
aad covered = front covered
