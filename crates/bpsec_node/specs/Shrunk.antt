-- Blocks of a bundle of which some are left out, and some have shorter bodies.
use Rattle.std.specs.Prelude.{◌≡◌, ◌≢◌, ◌≤◌, ◌⊎◌, List, [], ◌∷◌, length}
use Rattle.bp_blocks.specs.declared.block.Block.{Block}

-- a block with the same type, number, flags and check type, and a body that isn't longer
pub record Shrinks (block less : Block) : Type 0 where
  pub kind : less.kind ≡ block.kind
  pub number : less.number ≡ block.number
  pub flags : less.flags ≡ block.flags
  pub crc : less.crc ≡ block.crc
  pub body : length less.body ≤ length block.body

-- In the order of the first list, each block shrinks, or it is left out and isn't the payload block.
abbrev pub Shrunk : List Block → List Block → Type 0
Shrunk [] less = less ≡ []
Shrunk (block ∷ more) less =
    ((block.number ≢ 1) × Shrunk more less)
    ⊎ ((first : Block) × (others : List Block) × (less ≡ first ∷ others) × Shrinks block first × Shrunk more others)
