-- Items as they stand in the values of a security block: RFC 8949, section 3, with definite lengths and shortest heads
-- (section 4.2.1), without tags, and with no array or map inside eight others.
use Rattle.std.specs.Prelude.{◌≡◌, ℕ, zero, suc, ◌*◌, ◌-◌, ◌==◌, ◌||◌, nat_lt, if◌then◌else◌, List, [], ◌++◌, length, drop, Result, Ok, Err}
use Rattle.cbor_profile.specs.declared.head.Head.{Head}
use Rattle.cbor_profile.specs.declared.head.HeadRead.{HeadRead}
use Rattle.cbor_profile.specs.declared.head.HeadRead.TheVariants as heads
use Rattle.cbor_profile.specs.declared.item.ItemFault.{ItemFault}
use Rattle.cbor_profile.specs.declared.item.ItemFault.TheVariants.{Short, NotShortest, Bad, Deep}
use Rattle.cbor_profile.specs.declared.item.ItemRead.{ItemRead}
use Rattle.cbor_profile.specs.declared.item.ItemRead.TheVariants as items
use Rattle.cbor_profile.specs.Head.{IsHead, spelling, read_head}
use Rattle.cbor_profile.specs.Step.{◌>>=◌}

-- What follows a head: nothing, as many bytes as its argument says, or for each one that the argument counts this
-- many items.
pub data Following : Type 0 where
  Nothing : Following
  Text : Following
  Items : ℕ → Following

-- Strings are the major types 2 and 3, an array has the items that its argument counts, a map twice as many.
abbrev pub following_head : ℕ → Following
following_head major =
    if (major == 2) || (major == 3) then Text
    else if major == 4 then Items 1
    else if major == 5 then Items 2
    else Nothing

-- ---- the grammar

-- the bytes are this many, one after the other
abbrev pub Sequence : (List ℕ → Type 0) → ℕ → List ℕ → Type 0
Sequence Each zero bytes = bytes ≡ []
Sequence Each (suc n) bytes = (first : List ℕ) × (others : List ℕ) × Each first × Sequence Each n others × (bytes ≡ first ++ others)

-- the bytes are a head, and content that fits it
abbrev pub Headed : (Following → ℕ → List ℕ → Type 0) → List ℕ → Type 0
Headed Fits bytes = (head : Head) × (content : List ℕ) × IsHead head × Fits (following_head head.major) head.value content × (bytes ≡ spelling head ++ content)

-- The content of an item, where at most `levels` arrays and maps stand inside one another.
abbrev pub IsContent : ℕ → Following → ℕ → List ℕ → Type 0
IsContent levels Nothing argument content = content ≡ []
IsContent levels Text argument content = length content ≡ argument
IsContent zero (Items each) argument content = ⊥
IsContent (suc levels) (Items each) argument content = Sequence (Headed (IsContent levels)) (each * argument) content

-- the bytes are one item
abbrev pub IsItem : ℕ → List ℕ → Type 0
IsItem levels = Headed (IsContent levels)

-- the most arrays and maps that stand inside one another
abbrev pub most_levels : ℕ
most_levels = 8

-- ---- the first fault from the left

-- a head and the bytes after it
abbrev pub after_head : List ℕ → HeadRead → Result (Head × List ℕ) ItemFault
after_head bytes (heads.Whole head len) = Ok (head, drop len bytes)
after_head bytes heads.Short = Err Short
after_head bytes heads.NotShortest = Err NotShortest
after_head bytes heads.Bad = Err Bad

unfoldable pub head_from : List ℕ → Result (Head × List ℕ) ItemFault
head_from bytes = after_head bytes (read_head bytes)

-- what this many leave
unfoldable pub each_from : (List ℕ → Result (List ℕ) ItemFault) → ℕ → List ℕ → Result (List ℕ) ItemFault
each_from one zero bytes = Ok bytes
each_from one (suc n) bytes = one bytes >>= each_from one n

-- what a head with its content leaves
abbrev pub headed_from : (Following → ℕ → List ℕ → Result (List ℕ) ItemFault) → List ℕ → Result (List ℕ) ItemFault
headed_from content bytes = head_from bytes >>= λ h. content (following_head h.0.major) h.0.value h.1

unfoldable pub content_from : ℕ → Following → ℕ → List ℕ → Result (List ℕ) ItemFault
content_from levels Nothing argument bytes = Ok bytes
content_from levels Text argument bytes = if nat_lt (length bytes) argument then Err Short else Ok (drop argument bytes)
content_from zero (Items each) argument bytes = Err Deep
content_from (suc levels) (Items each) argument bytes = each_from (headed_from (content_from levels)) (each * argument) bytes

-- what an item at the front leaves
abbrev pub item_from : ℕ → List ℕ → Result (List ℕ) ItemFault
item_from levels = headed_from (content_from levels)

-- the answer of reading an item at the front
abbrev pub answer : List ℕ → Result (List ℕ) ItemFault → ItemRead
answer bytes (Ok rest) = items.Whole (length bytes - length rest)
answer bytes (Err Short) = items.Short
answer bytes (Err NotShortest) = items.NotShortest
answer bytes (Err Bad) = items.Bad
answer bytes (Err Deep) = items.Deep

unfoldable pub read_item : List ℕ → ItemRead
read_item bytes = answer bytes (item_from most_levels bytes)
