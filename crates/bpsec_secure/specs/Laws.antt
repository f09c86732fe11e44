-- Words of the laws.
use Rattle.std.specs.Prelude.{Bool, true, false}
use Rattle.bpsec_plan.specs.declared.item.Item.{Item}
use Rattle.bpsec_plan.specs.declared.item.Item.TheVariants.{Bib, Bcb, Split}

-- the item splits a block integrity block
abbrev pub is_split : Item → Bool
is_split (Bib cover) = false
is_split (Bcb cover iv shared_iv tag_in_body) = false
is_split (Split split) = true
