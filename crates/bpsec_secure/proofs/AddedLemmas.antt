-- The blocks of the secured bundle, put together.
use Rattle.std.proofs.Common.{◌≡◌, ℕ, ◌+◌, ◌<◌, List, [], ◌∷◌, ◌++◌, length, map, take, get_or, refl, sym, ap, ◌∙◌}
use Rattle.std.proofs.lemmas.List.{get_or-map, length-map, map-append, map_more}
use Rattle.bp_blocks.specs.declared.block.Block.{Block}
use Rattle.bpsec_plan.specs.declared.item.Item.{Item}
use Rattle.bpsec_secure.specs.declared.sealing.Tag.{Tag}
use Rattle.bpsec_facts.specs.Facts.{Facts}
use Rattle.bpsec_secure.specs.Tags.{tag_of_block, AreTags}
use Rattle.bpsec_facts.specs.Left.{block_left}
use Rattle.bpsec_secure.specs.Secured.{plain_block, plain_blocks, sealed, kept, finished, added}

-- the tags of both lists are those of all blocks
pub tags_are : (facts : Facts) (none first both : List Tag) (old new : List Block) → none ≡ [] → old ≡ map (block_left facts) facts.blocks → new ≡ map (plain_block facts) facts.items → first ≡ none ++ map (tag_of_block facts) old → both ≡ first ++ map (tag_of_block facts) new → AreTags facts both
unfolding plain_blocks
tags_are facts none first both old new none_is old_is new_is first_is both_is =
    rw (both_is, first_is, none_is, old_is, new_is) (sym (map-append (tag_of_block facts) (map (block_left facts) facts.blocks) (map (plain_block facts) facts.items)))

pub kept_all : (facts : Facts) (blocks : List Block) → map (sealed facts) (map (block_left facts) blocks) ≡ map (kept facts) blocks
unfolding kept
kept_all facts [] = refl
kept_all facts (block ∷ blocks) = ap (λ (bs : List Block). sealed facts (block_left facts block) ∷ bs) (kept_all facts blocks)

-- the block at an index is that of the item there
pub added_at : (facts : Facts) (blocks : List Block) (i : ℕ) (item : Item) (block : Block) → blocks ≡ map (sealed facts) (map (plain_block facts) facts.items) → i < length facts.items → item ≡ get_or facts.items i item → block ≡ get_or blocks i block → finished facts item block ≡ added facts item
unfolding added
added_at facts blocks i item block blocks_are within item_is block_is =
    let inner : i < length (map (plain_block facts) facts.items) = rw length-map within in
    let here : block ≡ sealed facts (plain_block facts item) =
    block_is ∙ (ap (λ (bs : List Block). get_or bs i block) blocks_are ∙ (get_or-map (sealed facts) (map (plain_block facts) facts.items) i (plain_block facts item) block inner
    ∙ (ap (sealed facts) (get_or-map (plain_block facts) facts.items i item (plain_block facts item) within) ∙ ap (λ (it : Item). sealed facts (plain_block facts it)) (sym item_is))))
    in
    ap (finished facts item) here

pub added_step : (facts : Facts) (blocks : List Block) (i : ℕ) (item : Item) (block : Block) (new next : List Block) → blocks ≡ map (sealed facts) (map (plain_block facts) facts.items) → i < length facts.items → item ≡ get_or facts.items i item → block ≡ get_or blocks i block → new ≡ map (added facts) (take i facts.items) → next ≡ new ++ finished facts item block ∷ [] → next ≡ map (added facts) (take (i + 1) facts.items)
added_step facts blocks i item block new next blocks_are within item_is block_is so_far next_is =
    let here : finished facts item block ≡ added facts (get_or facts.items i item) = added_at facts blocks i item block blocks_are within item_is block_is ∙ ap (added facts) item_is in
    next_is ∙ (rw (so_far, here) (sym (map_more (added facts) facts.items i item within)))
