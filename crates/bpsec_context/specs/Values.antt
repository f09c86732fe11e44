-- Values of parameters and results: each is one CBOR item (RFC 9172, section 3.6; RFC 8949, section 3).
use Rattle.std.specs.Prelude.{ℕ, ◌==◌, ◌&&◌, if◌then◌else◌, List, length, drop, Option, Some, None}
use Rattle.cbor_profile.specs.declared.head.HeadRead.{HeadRead}
use Rattle.cbor_profile.specs.declared.head.HeadRead.TheVariants.{Whole, Short, NotShortest, Bad}
use Rattle.cbor_profile.specs.Head.{read_head}

-- the number, where the value is the spelling of one and no more
abbrev pub number_from : List ℕ → HeadRead → Option ℕ
number_from value (Whole head len) = if (head.major == 0) && (len == length value) then Some head.value else None
number_from value Short = None
number_from value NotShortest = None
number_from value Bad = None

unfoldable pub number_of : List ℕ → Option ℕ
number_of value = number_from value (read_head value)

-- the content, where the value is the spelling of a byte string and no more
abbrev pub content_from : List ℕ → HeadRead → Option (List ℕ)
content_from value (Whole head len) = if (head.major == 2) && (head.value == length (drop len value)) then Some (drop len value) else None
content_from value Short = None
content_from value NotShortest = None
content_from value Bad = None

unfoldable pub content_of : List ℕ → Option (List ℕ)
content_of value = content_from value (read_head value)
