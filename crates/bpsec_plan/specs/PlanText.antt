-- The text of a plan: `version` (1), `items` (1 to 62).
use Rattle.std.specs.Prelude.{ℕ, Bool, false, ◌==◌, ◌&&◌, if◌then◌else◌, List, [], ◌∷◌, codes, unwrap_or, Option, Some, None, Result, Ok, Err}
use Rattle.std.specs.Str.{bytes_eq}
use Rattle.cbor_profile.specs.Step.{◌>>=◌}
use Rattle.serde_json.specs.Data.{Data}
use Rattle.bp_crc.specs.declared.kind.CheckKind.{CheckKind}
use Rattle.bp_crc.specs.Item.{check_of}
use Rattle.bp_text.specs.declared.fault.TextReason.{TextReason}
use Rattle.bp_text.specs.declared.fault.TextReason.TheVariants.{WrongShape, UnknownWord, TooMany}
use Rattle.bp_text.specs.declared.fault.TextFault.{TextFault}
use Rattle.bp_text.specs.declared.shape.Kind.TheVariants.{Text, Name, Number, Flag, Array, Distinct}
use Rattle.bp_text.specs.Fault.{unless, wanted, top}
use Rattle.bp_text.specs.Tree.{tree_of, number_at, text_at, flag_at, list_at}
use Rattle.bp_text.specs.Shape.{has, has_only, may_have, passes}
use Rattle.bp_text.specs.Field.{bytes_at, eid_at, hex_at, whole_at, wholes_at, optional}
use Rattle.bp_text.specs.Top.{version_at, is_short}
use Rattle.bp_text.specs.Entries.{entries_at}
use Rattle.bpsec_plan.specs.declared.item.Cover.{Cover}
use Rattle.bpsec_plan.specs.declared.item.Item.{Item}
use Rattle.bpsec_plan.specs.declared.item.Item.TheVariants as items
use Rattle.bpsec_plan.specs.Items.{is_integrity_variant, is_cipher_variant}

-- ---- what all items have: `block`, `flags`, `crc` (0 to 2), `targets` (1 to 64 distinct numbers)

abbrev pub most : ℕ
most = 18446744073709551615

unfoldable pub is_frame_shape : Data → Bool
is_frame_shape d =
    has (Number most) (codes "block") d && (has (Number most) (codes "flags") d && (has (Number 2) (codes "crc") d
    && has (Distinct 64) (codes "targets") d))

unfoldable pub frame_at : Data → Result (ℕ × ℕ × CheckKind × List ℕ) TextReason
frame_at d = do
  block ← whole_at (codes "block") d
  flags ← whole_at (codes "flags") d
  crc ← whole_at (codes "crc") d
  targets ← wholes_at (codes "targets") d
  Ok (block, flags, check_of crc, targets)

-- ---- what items that add operations have: also `source` (id), `key` (a name), `variant`, `scope` (0 to 65535) and, where
-- ---- wanted, `wrapped_with` (a name)

unfoldable pub is_cover_shape : Data → Bool
is_cover_shape d =
    is_frame_shape d && (has Text (codes "source") d && (has Name (codes "key") d
    && (has (Number 65535) (codes "scope") d && may_have Name (codes "wrapped_with") d)))

-- the names of the key and of the key that wraps it
unfoldable pub keys_at : Data → Result (List ℕ × Option (List ℕ)) TextReason
keys_at d = do
  key ← bytes_at (codes "key") d
  wrapped_with ← optional bytes_at (codes "wrapped_with") d
  Ok (key, wrapped_with)

-- variant and scope
unfoldable pub algorithm_at : Data → Result (ℕ × ℕ) TextReason
algorithm_at d = do
  variant ← whole_at (codes "variant") d
  scope ← whole_at (codes "scope") d
  Ok (variant, scope)

unfoldable pub cover_at : Data → Result Cover TextReason
cover_at d = do
  frame ← frame_at d
  source ← eid_at (codes "source") d
  keys ← keys_at d
  algorithm ← algorithm_at d
  Ok (record { block = frame.0; flags = frame.1; crc = frame.2; targets = frame.3; source = source; key = keys.0; wrapped_with = keys.1; variant = algorithm.0; scope = algorithm.1 })

-- ---- a bib item, with `variant` 5, 6 or 7

unfoldable pub has_bib_keys : Data → Bool
has_bib_keys d =
    has_only (codes "service" ∷ codes "block" ∷ codes "flags" ∷ codes "crc" ∷ codes "targets" ∷ codes "source" ∷ codes "key"
    ∷ codes "variant" ∷ codes "scope" ∷ codes "wrapped_with" ∷ []) d

unfoldable pub is_bib_shape : Data → Bool
is_bib_shape d =
    has_bib_keys d && (is_cover_shape d && passes is_integrity_variant (number_at (codes "variant") d))

unfoldable pub bib_at : Data → Result Item TextReason
bib_at d = do
  shape ← unless (is_bib_shape d) WrongShape
  cover ← cover_at d
  Ok (items.Bib cover)

-- ---- a bcb item, with `variant` 1 or 3, also `iv` (hexadecimal, 8 to 16 bytes) and, where wanted, `shared_iv` and
-- ---- `tag_in_body` (true or false; absent is false)

unfoldable pub has_bcb_keys : Data → Bool
has_bcb_keys d =
    has_only (codes "service" ∷ codes "block" ∷ codes "flags" ∷ codes "crc" ∷ codes "targets" ∷ codes "source" ∷ codes "key"
    ∷ codes "variant" ∷ codes "scope" ∷ codes "wrapped_with" ∷ codes "iv" ∷ codes "shared_iv" ∷ codes "tag_in_body" ∷ []) d

unfoldable pub is_vector_shape : Data → Bool
is_vector_shape d =
    has Text (codes "iv") d && (may_have Flag (codes "shared_iv") d && may_have Flag (codes "tag_in_body") d)

unfoldable pub is_bcb_shape : Data → Bool
is_bcb_shape d =
    has_bcb_keys d
    && (is_cover_shape d && (passes is_cipher_variant (number_at (codes "variant") d) && is_vector_shape d))

abbrev pub flag_or_false : List ℕ → Data → Bool
flag_or_false key d = unwrap_or (flag_at key d) false

unfoldable pub bcb_at : Data → Result Item TextReason
bcb_at d = do
  shape ← unless (is_bcb_shape d) WrongShape
  cover ← cover_at d
  iv ← hex_at 8 16 (codes "iv") d
  Ok (items.Bcb cover iv (flag_or_false (codes "shared_iv") d) (flag_or_false (codes "tag_in_body") d))

-- ---- a split item, with `from` (a block number)

unfoldable pub is_split_shape : Data → Bool
is_split_shape d =
    has_only (codes "service" ∷ codes "block" ∷ codes "flags" ∷ codes "crc" ∷ codes "from" ∷ codes "targets" ∷ []) d
    && (is_frame_shape d && has (Number most) (codes "from") d)

unfoldable pub split_at : Data → Result Item TextReason
split_at d = do
  shape ← unless (is_split_shape d) WrongShape
  frame ← frame_at d
  from ← whole_at (codes "from") d
  Ok (items.Split (record { block = frame.0; flags = frame.1; crc = frame.2; from = from; targets = frame.3 }))

-- ---- items by their `service`; another word is UnknownWord, before other keys are looked at

abbrev pub item_by : Option (List ℕ) → Data → Result Item TextReason
item_by None d = Err WrongShape
item_by (Some word) d =
    if bytes_eq word (codes "bib") then bib_at d
    else if bytes_eq word (codes "bcb") then bcb_at d
    else if bytes_eq word (codes "split") then split_at d
    else Err UnknownWord

unfoldable pub item_at : Data → Result Item TextReason
item_at d = item_by (text_at (codes "service") d) d

-- ---- plans

unfoldable pub is_plan_shape : Data → Bool
is_plan_shape d = has_only (codes "version" ∷ codes "items" ∷ []) d && has (Array 1) (codes "items") d

unfoldable pub plan_at : Data → Result (List Item) TextFault
plan_at d = do
  version ← top (version_at (1 ∷ []) d)
  shape ← top (unless (is_plan_shape d) WrongShape)
  short ← top (unless (is_short 62 (codes "items") d) TooMany)
  list ← top (wanted WrongShape (list_at (codes "items") d))
  entries_at item_at 0 [] list

-- the plan that the bytes are the text of, or the first fault
abbrev pub plan_of : List ℕ → Result (List Item) TextFault
plan_of bytes = top (tree_of bytes) >>= plan_at
