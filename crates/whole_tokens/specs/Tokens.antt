-- Whole tokens, one behind the other (RFC 8949, section 3), as they stand in a bundle (RFC 9171, section 4). Which token is
-- permitted where isn't said here.
use Rattle.std.specs.Prelude.{◌≡◌, ◌⊎◌, ℕ, ◌^◌, ◌<◌, List, [], ◌∷◌, ◌++◌, length}
use Rattle.std.specs.List.{All, flat_map}
use Rattle.cbor_profile.specs.Head.{head_spelling, read_head}
use Rattle.cbor_profile.specs.Put.{uint, byte_string, text_string, array_head}
use Rattle.cbor_profile.specs.declared.head.HeadRead.TheVariants.{Short}

-- An unsigned number and the head of an array are one token each. A string is two: its head, and its content.
pub data Part : Type 0 where
  Number : ℕ → Part
  Array : ℕ → Part
  Octets : List ℕ → Part
  Text : List ℕ → Part

-- with the shortest heads
abbrev pub bytes_of : Part → List ℕ
bytes_of (Number n) = uint n
bytes_of (Array count) = array_head count
bytes_of (Octets content) = byte_string content
bytes_of (Text content) = text_string content

-- what its head says: the number, how many items, or how many bytes of content
abbrev pub argument_of : Part → ℕ
argument_of (Number n) = n
argument_of (Array count) = count
argument_of (Octets content) = length content
argument_of (Text content) = length content

-- A head holds it.
abbrev pub IsPart : Part → Type 0
IsPart part = argument_of part < 2 ^ 64

-- a string's head alone, with this argument
abbrev pub IsStringHead : ℕ → List ℕ → Type 0
IsStringHead len head = (len < 2 ^ 64) × ((head ≡ head_spelling 2 len) ⊎ (head ≡ head_spelling 3 len))

-- What may stand behind whole parts: nothing, the head of a string before its content, or the byte that ends a bundle.
abbrev pub IsLast : List ℕ → Type 0
IsLast last = (last ≡ []) ⊎ (((len : ℕ) × IsStringHead len last) ⊎ (last ≡ 0xff ∷ []))

-- The byte that begins a bundle, whole parts, and then these bytes.
abbrev pub begun : List Part → List ℕ → List ℕ
begun parts rest = 0x9f ∷ (flat_map bytes_of parts ++ rest)

-- The bytes are whole tokens: none, or the byte that begins a bundle and what may stand behind it.
abbrev pub AreTokens : List ℕ → Type 0
AreTokens bytes =
    (bytes ≡ []) ⊎ ((parts : List Part) × (last : List ℕ) × All IsPart parts × IsLast last × (bytes ≡ begun parts last))

-- Less than a token: no byte, fewer bytes of a head than its first byte announces, or a string's head with less than its
-- content.
abbrev pub IsUnfinished : List ℕ → Type 0
IsUnfinished rest =
    (read_head rest ≡ Short)
    ⊎ ((len : ℕ) × (head : List ℕ) × (content : List ℕ) × IsStringHead len head × (length content < len)
    × (rest ≡ head ++ content))

-- The bytes are whole tokens and less than a token, or none.
abbrev pub EndWithinToken : List ℕ → Type 0
EndWithinToken bytes =
    (bytes ≡ []) ⊎ ((parts : List Part) × (rest : List ℕ) × All IsPart parts × IsUnfinished rest × (bytes ≡ begun parts rest))
