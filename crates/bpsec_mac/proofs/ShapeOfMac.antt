-- The bundle with the code has the shape of a bundle, but that it may be too long.
use Rattle.std.proofs.Common.{◌≡◌, ℕ, List, [], ◌∷◌, map, refl, subst}
use Rattle.std.specs.Prelude.{None}
use Rattle.bp_blocks.specs.declared.block.Block.{Block}
use Rattle.bp_bundle.specs.Shape.{Contents}
use Rattle.bp_bundle.specs.Faults.{shape_fault}
use Rattle.bpsec_asb.specs.SecurityBlock.{spelling}
use Rattle.bpsec_plan.specs.declared.item.Cover.{Cover}
use Rattle.bpsec_plan.specs.declared.item.Item.{Item}
use Rattle.bpsec_plan.specs.declared.item.Item.TheVariants.{Bib}
use Rattle.bpsec_facts.specs.Facts.{Facts}
use Rattle.bpsec_facts.specs.Items.{block_kind, block_number}
use Rattle.bpsec_facts.specs.Left.{before_last, block_left, new_block, primary_left}
use Rattle.bpsec_facts.specs.Answer.{HasShape}
use Rattle.bpsec_facts.proofs.ShapeLemmas as shape
use Rattle.bpsec_facts.proofs.ShapeLemmas.{Made, Passed}
use Rattle.bpsec_mac.specs.Mac.{mac_asb, mac_block, with_mac}

kept_number : (facts : Facts) (block : Block) → (block_left facts block).number ≡ block.number
unfolding block_left
kept_number facts block = refl

kept_kind : (facts : Facts) (block : Block) → (block_left facts block).kind ≡ block.kind
unfolding block_left
kept_kind facts block = refl

abbrev added : Facts → Cover → ℕ → Item → Block
added facts cover target item = new_block facts item (spelling (mac_asb facts cover target))

added_number : (facts : Facts) (cover : Cover) (target : ℕ) (item : Item)
    → (added facts cover target item).number ≡ block_number item
unfolding new_block
added_number facts cover target item = refl

added_kind : (facts : Facts) (cover : Cover) (target : ℕ) (item : Item)
    → (added facts cover target item).kind ≡ block_kind item
unfolding new_block
added_kind facts cover target item = refl

made : Facts → Cover → ℕ → Made
made facts cover target = record {
  facts = facts;
  kept = block_left facts;
  kept_number = kept_number facts;
  kept_kind = kept_kind facts;
  added = added facts cover target;
  added_number = added_number facts cover target;
  added_kind = added_kind facts cover target;
}

abbrev whole : Facts → Cover → ℕ → List Item → Contents
whole facts cover target items = record {
  primary = primary_left facts;
  blocks = before_last (map (block_left facts) facts.blocks) (map (added facts cover target) items);
}

pub has_shape : (facts : Facts) (cover : Cover) (target : ℕ) → facts.items ≡ Bib cover ∷ [] → Passed facts
    → shape_fault (record { primary = facts.primary; blocks = facts.blocks }) ≡ None
    → HasShape (with_mac facts cover target)
unfolding with_mac mac_block made
has_shape facts cover target one passed none =
    subst (λ (items : List Item). HasShape (whole facts cover target items)) one
    (shape.has_shape (made facts cover target) passed none (primary_left facts))
