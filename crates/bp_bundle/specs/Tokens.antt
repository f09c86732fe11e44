-- The heads of a bundle's tokens, where each may stand, and the first reason against one (RFC 9171, section 4; RFC 8949,
-- section 3, with the shortest heads of section 4.2.1). That a fault has a place and just one reason is this profile's.
use Rattle.std.specs.Prelude.{ℕ, ◌+◌, ◌-◌, Bool, not, ◌==◌, ◌||◌, ◌&&◌, nat_lt, nat_le, if◌then◌else◌, List, [], ◌∷◌, length, Option, Some, None, Result, Ok, Err}
use Rattle.cbor_profile.specs.declared.TheConstants.{BUNDLE_LIMIT}
use Rattle.cbor_profile.specs.declared.head.Head.{Head}
use Rattle.cbor_profile.specs.declared.fault.Reason.{Reason}
use Rattle.cbor_profile.specs.declared.fault.Reason.TheVariants.{Truncated, WrongCount, WrongValue, TooLong, Repeated}
use Rattle.cbor_profile.specs.declared.fault.Fault.{Fault}
use Rattle.cbor_profile.specs.Token.{token_head}
use Rattle.bp_crc.specs.Item.{zeros}
use Rattle.bp_primary.specs.Flags.{is_fragment}
use Rattle.bp_blocks.specs.declared.block.Block.{Block}
use Rattle.bp_bundle.specs.Faults.{exactly, may_have, has_number, has_single}
use Rattle.bp_bundle.specs.declared.token.Token.{Token}
use Rattle.bp_bundle.specs.declared.token.Token.TheVariants.{PrimaryArray, Version, BundleFlags, CheckType, Pair, Number, CheckString, BlockArray, BlockType, BlockNumber, Body}

-- ---- places

-- Where a reader stands: how many bytes stand before, and the bytes from there on.
pub record Cursor : Type 0 where
  pub at : ℕ
  pub rest : List ℕ

-- A place is that of the faulty token. Only of bytes that end too early it is the number of all that were given.
abbrev pub place_of : Cursor → Reason → ℕ
place_of cursor Truncated = cursor.at + length cursor.rest
place_of cursor reason = cursor.at

-- the token that begins here isn't permitted, for this reason
abbrev pub fault_at : Cursor → Reason → Fault
fault_at cursor reason = record { place = place_of cursor reason; reason = reason }

abbrev pub stops : {A : Type 0} → Cursor → Reason → Result A Fault
stops cursor reason = Err (fault_at cursor reason)

-- ---- the table

-- the major type that a head has: an unsigned number, a byte string, or an array
abbrev pub major_of : Token → ℕ
major_of PrimaryArray = 4
major_of Version = 0
major_of (BundleFlags items) = 0
major_of (CheckType checked) = 0
major_of Pair = 4
major_of Number = 0
major_of (CheckString kind) = 2
major_of BlockArray = 4
major_of BlockType = 0
major_of (BlockNumber kind) = 0
major_of Body = 2

-- a condition on the argument of a head, and the reason where it fails
pub record Condition : Type 0 where
  pub holds : ℕ → Bool
  pub reason : Reason

infix 5 ◌otherwise◌
abbrev pub ◌otherwise◌ : (ℕ → Bool) → Reason → Condition
holds otherwise reason = record { holds = holds; reason = reason }

-- The conditions of each head, in their order. `before` are the canonical blocks that stand before.
abbrev pub conditions : List Block → Token → List Condition
conditions before PrimaryArray = ((λ items. nat_le 8 items && nat_le items 11) otherwise WrongCount) ∷ []
conditions before Version = ((λ version. version == 7) otherwise WrongValue) ∷ []
conditions before (BundleFlags items) = ((λ flags. exactly (is_fragment flags) (nat_le 10 items)) otherwise WrongCount) ∷ []
conditions before (CheckType checked) = ((λ kind. nat_le kind 2) otherwise WrongValue) ∷ ((λ kind. exactly (not (kind == 0)) checked) otherwise WrongCount) ∷ []
conditions before Pair = ((λ items. items == 2) otherwise WrongCount) ∷ []
conditions before Number = []
conditions before (CheckString kind) = ((λ len. len == length (zeros kind)) otherwise WrongValue) ∷ []
conditions before BlockArray = ((λ items. (items == 5) || (items == 6)) otherwise WrongCount) ∷ ((λ _. nat_lt (length before) 64) otherwise TooLong) ∷ []
conditions before BlockType = ((λ kind. not (has_single before kind)) otherwise Repeated) ∷ []
conditions before (BlockNumber kind) = (may_have kind otherwise WrongValue) ∷ ((λ number. not (has_number before number)) otherwise Repeated) ∷ []
conditions before Body = []

-- ---- the reason against a head, the first of six

-- the first condition that fails
abbrev pub first_failing : List Condition → ℕ → Option Reason
first_failing [] argument = None
first_failing (condition ∷ more) argument = if condition.holds argument then first_failing more argument else Some condition.reason

-- how many bytes of content a head announces: those of a string
abbrev pub announced : Head → ℕ
announced head = if (head.major == 2) || (head.major == 3) then head.value else 0

-- these bytes are left
abbrev pub up_to : Cursor → List ℕ → Cursor
up_to cursor rest = record { at = cursor.at + (length cursor.rest - length rest); rest = rest }

-- The fifth is a condition that fails, in the order of the table. The sixth is that the head and the content that it
-- announces leave no room for the end of the bundle.
abbrev pub after_conditions : Cursor → Option Reason → Head → Cursor → Result (ℕ × Cursor) Fault
after_conditions cursor (Some reason) head after = stops cursor reason
after_conditions cursor None head after = if nat_lt (BUNDLE_LIMIT - 1) (after.at + announced head) then stops cursor TooLong else Ok (head.value, after)

-- The first four are those of every head: no byte is left; it is bad or of another major type; it isn't whole; it isn't
-- the shortest.
abbrev pub after_head : List Block → Token → Cursor → Result (Head × List ℕ) Reason → Result (ℕ × Cursor) Fault
after_head before token cursor (Err reason) = stops cursor reason
after_head before token cursor (Ok x) = after_conditions cursor (first_failing (conditions before token) x.0.value) x.0 (up_to cursor x.1)

-- the argument of the head that begins here, and what follows it
unfoldable pub argument_at : List Block → Token → Cursor → Result (ℕ × Cursor) Fault
argument_at before token cursor = after_head before token cursor (token_head (major_of token ∷ []) cursor.rest)
