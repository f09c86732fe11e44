-- Fields whose texts stand for something.
use Rattle.std.specs.Prelude.{ℕ, ◌&&◌, nat_le, if◌then◌else◌, List, length, Option, Some, None, is_some, Result, Ok, Err}
use Rattle.cbor_profile.specs.Step.{◌>>=◌}
use Rattle.hex.specs.Hex.{decode_of}
use Rattle.hex.specs.declared.error.FromHexError.{FromHexError}
use Rattle.serde_json.specs.Data.{Data}
use Rattle.serde_json.specs.Find.{get}
use Rattle.bp_eid.specs.declared.eid.Eid.{Eid}
use Rattle.bp_text.specs.declared.fault.TextReason.{TextReason}
use Rattle.bp_text.specs.declared.fault.TextReason.TheVariants.{WrongShape, UnknownWord, BadHex}
use Rattle.bp_text.specs.Fault.{wanted}
use Rattle.bp_text.specs.Tree.{number_at, text_at, list_at}
use Rattle.bp_text.specs.Shape.{wholes}
use Rattle.bp_text.specs.IdText.{id_of_text}

-- What the text at the key stands for among these words. Where no text is there it is WrongShape, where the text is no
-- word it is UnknownWord.
abbrev pub word_at : {A : Type 0} → (List ℕ → Option A) → List ℕ → Data → Result A TextReason
word_at words key tree = wanted WrongShape (text_at key tree) >>= λ text. wanted UnknownWord (words text)

-- the text itself
abbrev pub bytes_at : List ℕ → Data → Result (List ℕ) TextReason
bytes_at key tree = wanted WrongShape (text_at key tree)

-- a whole number from 0 to 18446744073709551615
abbrev pub whole_at : List ℕ → Data → Result ℕ TextReason
whole_at key tree = wanted WrongShape (number_at key tree)

-- the whole numbers in a list
abbrev pub wholes_at : List ℕ → Data → Result (List ℕ) TextReason
wholes_at key tree = wanted WrongShape (list_at key tree) >>= λ ds. Ok (wholes ds)

-- what is at the key, if the tree has the key
unfoldable pub optional : {A : Type 0} → (List ℕ → Data → Result A TextReason) → List ℕ → Data → Result (Option A) TextReason
optional read key tree = if is_some (get key tree) then (read key tree >>= λ x. Ok (Some x)) else Ok None

-- an endpoint id
unfoldable pub eid_at : List ℕ → Data → Result Eid TextReason
eid_at key tree = word_at id_of_text key tree

-- bytes in hexadecimal, upper or lower case, from `least` to `most` of them
abbrev pub within : ℕ → ℕ → Result (List ℕ) FromHexError → Result (List ℕ) TextReason
within least most (Ok bytes) =
    if nat_le least (length bytes) && nat_le (length bytes) most then Ok bytes else Err BadHex
within least most (Err e) = Err BadHex

unfoldable pub hex_at : ℕ → ℕ → List ℕ → Data → Result (List ℕ) TextReason
hex_at least most key tree =
    wanted WrongShape (text_at key tree) >>= λ text. within least most (decode_of text)
