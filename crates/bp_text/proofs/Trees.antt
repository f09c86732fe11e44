-- What bytes are read as.
use Rattle.std.proofs.Common.{◌≡◌, ℕ, ◌≤◌, Bool, true, false, List, length, None, Some, Ok, Err, refl, sym, ◌∙◌, ap}
use Rattle.std.specs.Str.{IsUtf8, is_utf8}
use Rattle.std.proofs.lemmas.Bool.{le-ltb}
use Rattle.std.proofs.lemmas.Str.{IsUtf8-from_is_utf8, is_utf8-from_IsUtf8}
use Rattle.serde_json.specs.Data.{Data}
use Rattle.serde_json.specs.Read.{read}
use Rattle.bp_text.specs.declared.fault.TextReason.TheVariants.{NotJson}
use Rattle.bp_text.specs.Fault.{top}
use Rattle.bp_text.specs.Tree.{text_limit, tree_of}

not_utf8 : (bytes : List ℕ) (b : Bool) → is_utf8 bytes ≡ b → (IsUtf8 bytes → ⊥) → b ≡ false
not_utf8 bytes true e none = absurd (none (IsUtf8-from_is_utf8 bytes e))
not_utf8 bytes false e none = refl

pub no_text : (bytes : List ℕ) → length bytes ≤ text_limit → (IsUtf8 bytes → ⊥) → top (tree_of bytes) ≡ Err (record { entry = None; reason = NotJson })
unfolding tree_of
no_text bytes short none = rw (le-ltb text_limit (length bytes) short, not_utf8 bytes (is_utf8 bytes) refl none) refl

pub is_tree : (bytes text : List ℕ) (d : Data) → length bytes ≤ text_limit → IsUtf8 bytes → text ≡ bytes → read text ≡ Some d → top (tree_of bytes) ≡ Ok d
unfolding tree_of
is_tree bytes text d short utf8 is e =
    let found : read bytes ≡ Some d = ap read (sym is) ∙ e in
    rw (le-ltb text_limit (length bytes) short, is_utf8-from_IsUtf8 bytes utf8, found) refl
