-- Heads of CBOR items: RFC 8949, section 3, in the shortest form alone (section 4.2.1).
use Rattle.std.specs.Prelude.{◌≡◌, ℕ, ◌+◌, ◌*◌, ◌/◌, ◌%◌, ◌^◌, ◌<◌, ◌⊎◌, Bool, ◌==◌, ◌||◌, ◌&&◌, nat_lt, nat_le, if◌then◌else◌, List, [], ◌∷◌, length, take, Option, Some, None}
use Rattle.std.specs.Int.{w8, w16, w32, w64, to_be_bytes, from_be_bytes}
use Rattle.cbor_profile.specs.declared.head.Head.{Head}
use Rattle.cbor_profile.specs.declared.head.HeadRead.{HeadRead}
use Rattle.cbor_profile.specs.declared.head.HeadRead.TheVariants.{Whole, Short, NotShortest, Bad}

-- ---- spelling

-- A first byte has the major type in its high three bits. Its low five bits are the argument itself below 24, else
-- 24 to 27 for an argument in the next 1, 2, 4 or 8 bytes, in network order.
abbrev pub first_byte : ℕ → ℕ → ℕ
first_byte major low = 32 * major + low

-- the one shortest spelling of a major type and an argument
abbrev pub head_spelling : ℕ → ℕ → List ℕ
head_spelling major argument =
    if nat_lt argument 24 then first_byte major argument ∷ []
    else if nat_lt argument (2 ^ 8) then first_byte major 24 ∷ to_be_bytes w8 argument
    else if nat_lt argument (2 ^ 16) then first_byte major 25 ∷ to_be_bytes w16 argument
    else if nat_lt argument (2 ^ 32) then first_byte major 26 ∷ to_be_bytes w32 argument
    else first_byte major 27 ∷ to_be_bytes w64 argument

unfoldable pub spelling : Head → List ℕ
spelling head = head_spelling head.major head.value

-- What has a spelling: no tags (major type 6), and of the simple and floating-point values (major type 7) those that
-- the first byte holds.
abbrev pub IsHead : Head → Type 0
IsHead head = (head.value < 2 ^ 64) × ((head.major < 6) ⊎ ((head.major ≡ 7) × (head.value < 24)))

-- ---- the first fault from the left

-- how many bytes of argument follow a first byte with these low five bits
abbrev pub following : ℕ → ℕ
following low = if nat_lt low 24 then 0 else if low == 24 then 1 else if low == 25 then 2 else if low == 26 then 4 else 8

-- the argument: the low five bits, or the number in the bytes that follow
abbrev pub argument : ℕ → List ℕ → ℕ
argument low rest =
    if nat_lt low 24 then low
    else if low == 24 then from_be_bytes w8 (take 1 rest)
    else if low == 25 then from_be_bytes w16 (take 2 rest)
    else if low == 26 then from_be_bytes w32 (take 4 rest)
    else from_be_bytes w64 (take 8 rest)

-- the least argument for which no shorter form would do
abbrev pub least : ℕ → ℕ
least low = if nat_lt low 24 then 0 else if low == 24 then 24 else if low == 25 then 2 ^ 8 else if low == 26 then 2 ^ 16 else 2 ^ 32

-- the argument, its least value, and the length of the head, where the argument is there
abbrev pub argument_found : ℕ → List ℕ → Option (ℕ × ℕ × ℕ)
argument_found low rest = if nat_lt (length rest) (following low) then None else Some (argument low rest, least low, following low + 1)

-- A tag, a reserved or indefinite length, or a simple or floating-point value outside the first byte: seen at the
-- first byte alone.
abbrev pub is_bad : ℕ → Bool
is_bad first = (first / 32 == 6) || (nat_le 28 (first % 32) || ((first / 32 == 7) && nat_le 24 (first % 32)))

-- what reading a head from the left meets first
unfoldable pub read_head : List ℕ → HeadRead
read_head [] = Short
read_head (first ∷ rest) =
    if is_bad first then Bad
    else if nat_lt (length rest) (following (first % 32)) then Short
    else if nat_lt (argument (first % 32) rest) (least (first % 32)) then NotShortest
    else Whole (record { major = first / 32; value = argument (first % 32) rest }) (following (first % 32) + 1)
