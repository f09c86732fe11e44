-- The spellings that are written: RFC 8949, sections 3.1 and 3.3, with the shortest heads.
use Rattle.std.specs.Prelude.{ℕ, ℤ, pos, negsuc, Bool, if◌then◌else◌, List, ◌++◌, length}
use Rattle.cbor_profile.specs.Head.{head_spelling}

-- an unsigned number: major type 0
unfoldable pub uint : ℕ → List ℕ
uint n = head_spelling 0 n

-- a signed number: major type 0, or 1 with the argument -1 - z
unfoldable pub int : ℤ → List ℕ
int (pos n) = head_spelling 0 n
int (negsuc n) = head_spelling 1 n

-- a byte string: major type 2 with its length, and its content
unfoldable pub byte_string : List ℕ → List ℕ
byte_string content = head_spelling 2 (length content) ++ content

-- a text string: major type 3 with its length in bytes, and its content
unfoldable pub text_string : List ℕ → List ℕ
text_string content = head_spelling 3 (length content) ++ content

-- the head of an array: major type 4 with the number of its items
unfoldable pub array_head : ℕ → List ℕ
array_head count = head_spelling 4 count

-- the simple values false and true: major type 7 with 20 and 21
unfoldable pub truth : Bool → List ℕ
truth b = head_spelling 7 (if b then 21 else 20)
