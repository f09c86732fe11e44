-- The text of a key ring: `version` (1), `keys` (0 to 256). Each key has `name` and `key` (hexadecimal, 16 to 64 bytes).
use Rattle.std.specs.Prelude.{ℕ, Bool, ◌&&◌, List, [], ◌∷◌, codes, Result, Ok}
use Rattle.cbor_profile.specs.Step.{◌>>=◌}
use Rattle.serde_json.specs.Data.{Data}
use Rattle.bp_text.specs.declared.fault.TextReason.{TextReason}
use Rattle.bp_text.specs.declared.fault.TextReason.TheVariants.{WrongShape, TooMany}
use Rattle.bp_text.specs.declared.fault.TextFault.{TextFault}
use Rattle.bp_text.specs.declared.shape.Kind.TheVariants.{Text, Name, Array}
use Rattle.bp_text.specs.Fault.{unless, wanted, top}
use Rattle.bp_text.specs.Tree.{tree_of, list_at}
use Rattle.bp_text.specs.Shape.{has, has_only}
use Rattle.bp_text.specs.Field.{bytes_at, hex_at}
use Rattle.bp_text.specs.Top.{version_at, is_short}
use Rattle.bp_text.specs.Entries.{entries_at}
use Rattle.bpsec_policy.specs.declared.ring.NamedKey.{NamedKey}

unfoldable pub is_key_shape : Data → Bool
is_key_shape d =
    has_only (codes "name" ∷ codes "key" ∷ []) d && (has Name (codes "name") d && has Text (codes "key") d)

unfoldable pub key_at : Data → Result NamedKey TextReason
key_at d = do
  shape ← unless (is_key_shape d) WrongShape
  name ← bytes_at (codes "name") d
  key ← hex_at 16 64 (codes "key") d
  Ok (record { name = name; key = key })

unfoldable pub is_ring_shape : Data → Bool
is_ring_shape d = has_only (codes "version" ∷ codes "keys" ∷ []) d && has (Array 0) (codes "keys") d

unfoldable pub ring_at : Data → Result (List NamedKey) TextFault
ring_at d = do
  version ← top (version_at (1 ∷ []) d)
  shape ← top (unless (is_ring_shape d) WrongShape)
  short ← top (unless (is_short 256 (codes "keys") d) TooMany)
  keys ← top (wanted WrongShape (list_at (codes "keys") d))
  entries_at key_at 0 [] keys

-- the keys of the ring that the bytes are the text of, or the first fault
abbrev pub ring_of : List ℕ → Result (List NamedKey) TextFault
ring_of bytes = top (tree_of bytes) >>= ring_at
