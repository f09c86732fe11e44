-- Tokens of a security block: those of a bundle, and beside them the values of its pairs. A fault in a value is placed at
-- its first byte.
use Rattle.std.specs.Prelude.{◌≡◌, ◌⊎◌, ℕ, ◌<◌, List, ◌++◌, length, take}
use Rattle.cbor_profile.specs.Item.{IsItem, most_levels, read_item}
use Rattle.cbor_profile.specs.declared.item.ItemRead.{ItemRead}
use Rattle.cbor_profile.specs.declared.item.ItemRead.TheVariants as items
use Rattle.correct_prefix.specs.Prefix.{Begins, IsToken, IsUnfinished}

-- A value stands behind these bytes: with each item they begin a byte list of the kind.
abbrev pub TakesValue : (List ℕ → Type 0) → List ℕ → Type 0
TakesValue Kind front = (value : List ℕ) → IsItem most_levels value → Begins Kind (front ++ value)

-- what was read is neither an item nor the beginning of one
abbrev pub IsRefused : ItemRead → Type 0
IsRefused (items.Whole len) = ⊥
IsRefused items.Short = ⊥
IsRefused items.NotShortest = Unit {0}
IsRefused items.Bad = Unit {0}
IsRefused items.Deep = Unit {0}

-- The bytes of a value up to the first with which it is refused: with fewer of them it only lacks bytes.
abbrev pub IsRefusedValue : List ℕ → Type 0
IsRefusedValue token = IsRefused (read_item token) × ((few : ℕ) → few < length token → read_item (take few token) ≡ items.Short)

-- One token behind these bytes, or a value up to the byte with which it is refused, where one stands.
abbrev pub IsTokenOrValue : (List ℕ → Type 0) → List ℕ → List ℕ → Type 0
IsTokenOrValue Kind front token = IsToken front token ⊎ (TakesValue Kind front × IsRefusedValue token)

-- a value stands here, and what is left is less than an item
abbrev pub LacksValue : (List ℕ → Type 0) → List ℕ → List ℕ → Type 0
LacksValue Kind front rest = TakesValue Kind front × (read_item rest ≡ items.Short)

-- What is left is no whole token, and no whole value where one stands.
abbrev pub IsUnfinishedOrValue : (List ℕ → Type 0) → List ℕ → List ℕ → Type 0
IsUnfinishedOrValue Kind front rest = IsUnfinished Kind front rest ⊎ LacksValue Kind front rest
