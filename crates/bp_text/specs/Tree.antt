-- The tree of a text, and the fields of an object in it. What a JSON text (RFC 8259) reads as is stated by the crate
-- `serde_json`: of two equal keys the later value stays, and a number with a point or an exponent is no whole number.
use Rattle.std.specs.Prelude.{ℕ, Bool, nat_lt, if◌then◌else◌, List, [], ◌∷◌, length, ℤ, Option, None, option_map, option_and_then, Result, Err}
use Rattle.std.specs.Str.{is_utf8}
use Rattle.serde_json.specs.Data.{Data, Items, no_items, item}
use Rattle.serde_json.specs.Read.{read}
use Rattle.serde_json.specs.Find.{get, as_bool, as_number, as_str, as_array, as_u64, as_i64}
use Rattle.bp_text.specs.declared.fault.TextReason.TheVariants.{TooLong, NotJson}
use Rattle.bp_text.specs.declared.fault.TextReason.{TextReason}
use Rattle.bp_text.specs.Fault.{wanted}

abbrev pub text_limit : ℕ
text_limit = 1048576

-- At most 1,048,576 bytes, which are UTF-8 and a JSON text whose arrays and objects nest at most 127 deep.
unfoldable pub tree_of : List ℕ → Result Data TextReason
tree_of bytes =
    if nat_lt text_limit (length bytes) then Err TooLong
    else wanted NotJson (if is_utf8 bytes then read bytes else None)

abbrev pub list_of : Items → List Data
list_of no_items = []
list_of (item d ds) = d ∷ list_of ds

-- the values of an array
abbrev pub values_of : Data → Option (List Data)
values_of d = option_map list_of (as_array d)

-- ---- the value of a key, where the tree is an object that has the key and the value is of this kind

-- a whole number from 0 to 18446744073709551615
abbrev pub number_at : List ℕ → Data → Option ℕ
number_at key tree = option_and_then as_u64 (option_and_then as_number (get key tree))

-- a whole number from -9223372036854775808 to 9223372036854775807
abbrev pub signed_at : List ℕ → Data → Option ℤ
signed_at key tree = option_and_then as_i64 (option_and_then as_number (get key tree))

abbrev pub text_at : List ℕ → Data → Option (List ℕ)
text_at key tree = option_and_then as_str (get key tree)

abbrev pub flag_at : List ℕ → Data → Option Bool
flag_at key tree = option_and_then as_bool (get key tree)

abbrev pub list_at : List ℕ → Data → Option (List Data)
list_at key tree = option_and_then values_of (get key tree)
