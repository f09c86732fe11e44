-- A tag is found under the number of its block.
use Rattle.std.proofs.Common.{◌≡◌, ℕ, ◌==◌, Bool, true, false, List, [], ◌∷◌, map, refl, ap, ◌∙◌}
use Rattle.bp_blocks.specs.declared.block.Block.{Block}
use Rattle.bpsec_secure.specs.declared.sealing.Tag.{Tag}
use Rattle.bpsec_facts.specs.Facts.{Facts}
use Rattle.bpsec_facts.specs.Refusal.{block_at}
use Rattle.bpsec_secure.specs.Secured.{tag_from, plain_blocks}
use Rattle.bpsec_secure.specs.Tags.{tag_of_block, AreTags, tag_at}

found_by : (facts : Facts) (target : ℕ) (block : Block) (blocks : List Block) (is : Bool) → (block.number == target) ≡ is → tag_at (map (tag_of_block facts) blocks) target ≡ tag_from facts (block_at blocks target) → tag_at (map (tag_of_block facts) (block ∷ blocks)) target ≡ tag_from facts (block_at (block ∷ blocks) target)
found_by facts target block blocks true is rest = rw is refl
found_by facts target block blocks false is rest = rw is rest

found : (facts : Facts) (target : ℕ) (blocks : List Block) → tag_at (map (tag_of_block facts) blocks) target ≡ tag_from facts (block_at blocks target)
found facts target [] = refl
found facts target (block ∷ blocks) = found_by facts target block blocks (block.number == target) refl (found facts target blocks)

pub tag_found : (facts : Facts) (tags : List Tag) (target : ℕ) → AreTags facts tags → tag_at tags target ≡ tag_from facts (block_at (plain_blocks facts) target)
tag_found facts tags target are = ap (λ (all : List Tag). tag_at all target) are ∙ found facts target (plain_blocks facts)
