-- The tags that sealing makes.
use Rattle.std.specs.Prelude.{◌≡◌, ℕ, ◌==◌, List, [], map, find, Option, Some, None}
use Rattle.bp_blocks.specs.declared.block.Block.{Block}
use Rattle.bpsec_secure.specs.declared.sealing.Tag.{Tag}
use Rattle.bpsec_facts.specs.Facts.{Facts}
use Rattle.bpsec_secure.specs.Secured.{tag_over, plain_blocks}

-- an entry for each block
abbrev pub tag_of_block : Facts → Block → Tag
tag_of_block facts block = record { number = block.number; tag = tag_over facts block }

-- they are those of all blocks
abbrev pub AreTags : Facts → List Tag → Type 0
AreTags facts tags = tags ≡ map (tag_of_block facts) (plain_blocks facts)

-- the tag over the block of a number, or no bytes
abbrev pub tag_bytes : Option Tag → List ℕ
tag_bytes None = []
tag_bytes (Some found) = found.tag

abbrev pub tag_at : List Tag → ℕ → List ℕ
tag_at tags target = tag_bytes (find (λ tag. tag.number == target) tags)
