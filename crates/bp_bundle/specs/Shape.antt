-- What a bundle is made of: RFC 9171, section 4.1.
use Rattle.std.specs.Prelude.{ℕ, ◌-◌, List, [], length, Option, Some, None}
use Rattle.std.specs.List.{slice_get}
use Rattle.bp_primary.specs.declared.primary.Primary.{Primary}
use Rattle.bp_blocks.specs.declared.block.Block.{Block}

-- a primary block, and the canonical blocks in their order
pub record Contents : Type 0 where
  pub primary : Primary
  pub blocks : List Block

-- The payload: the body of the last block, which is the payload block (section 4.3.3).
abbrev pub body_of : Option Block → List ℕ
body_of None = []
body_of (Some block) = block.body

abbrev pub payload : Contents → List ℕ
payload bundle = body_of (slice_get bundle.blocks (length bundle.blocks - 1))
