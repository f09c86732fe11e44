-- The secured bundle has the shape of a bundle.
use Rattle.std.proofs.Common.{◌≡◌, refl}
use Rattle.std.specs.Prelude.{None}
use Rattle.bp_blocks.specs.declared.block.Block.{Block}
use Rattle.bp_bundle.specs.Faults.{shape_fault}
use Rattle.bpsec_plan.specs.declared.item.Item.{Item}
use Rattle.bpsec_plan.specs.declared.item.Item.TheVariants.{Bib, Bcb, Split}
use Rattle.bpsec_facts.specs.Facts.{Facts}
use Rattle.bpsec_facts.specs.Items.{block_number, block_kind}
use Rattle.bpsec_facts.specs.Left.{block_left, new_block, primary_left}
use Rattle.bpsec_facts.specs.Answer.{HasShape}
use Rattle.bpsec_facts.proofs.ShapeLemmas as shape
use Rattle.bpsec_facts.proofs.ShapeLemmas.{Made}
use Rattle.bpsec_secure.specs.Secured.{plain_block, sealed, kept, added, secured}
use Rattle.bpsec_secure.proofs.Passed.{Passed}

pub kept_number : (facts : Facts) (block : Block) → (kept facts block).number ≡ block.number
unfolding kept sealed block_left
kept_number facts block = refl

kept_kind : (facts : Facts) (block : Block) → (kept facts block).kind ≡ block.kind
unfolding kept sealed block_left
kept_kind facts block = refl

pub added_number : (facts : Facts) (item : Item) → (added facts item).number ≡ block_number item
unfolding added sealed plain_block new_block
added_number facts (Bib cover) = refl
added_number facts (Bcb cover iv shared_iv tag_in_body) = refl
added_number facts (Split split) = refl

added_kind : (facts : Facts) (item : Item) → (added facts item).kind ≡ block_kind item
unfolding added sealed plain_block new_block
added_kind facts (Bib cover) = refl
added_kind facts (Bcb cover iv shared_iv tag_in_body) = refl
added_kind facts (Split split) = refl

made : Facts → Made
made facts = record {
  facts = facts;
  kept = kept facts;
  kept_number = kept_number facts;
  kept_kind = kept_kind facts;
  added = added facts;
  added_number = added_number facts;
  added_kind = added_kind facts;
}

pub has_shape : (facts : Facts) → Passed facts → shape_fault (record { primary = facts.primary; blocks = facts.blocks }) ≡ None → HasShape (secured facts)
unfolding secured made
has_shape facts passed none =
    shape.has_shape (made facts) (record { numbers = passed.numbers; few = passed.few }) none (primary_left facts)
