use Rattle.std.specs.Prelude.{ℕ}
use Rattle.cbor_profile.specs.declared.item.ItemRead.{ItemRead}
use Rattle.cbor_profile.specs.declared.item.ItemRead.TheVariants as items

-- a fact about the length of an item that was read
abbrev pub IfWholeItem : ItemRead → (ℕ → Type 0) → Type 0
IfWholeItem (items.Whole len) P = P len
IfWholeItem items.Short P = Unit {0}
IfWholeItem items.NotShortest P = Unit {0}
IfWholeItem items.Bad P = Unit {0}
IfWholeItem items.Deep P = Unit {0}
