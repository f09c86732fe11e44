-- Lists of canonical blocks.
use Rattle.std.specs.Prelude.{ℕ, ◌==◌, List, Option}
use Rattle.std.specs.List.{find}
use Rattle.bp_blocks.specs.declared.block.Block.{Block}

-- the canonical block with a number (RFC 9171, section 4.1)
abbrev pub block_with : List Block → ℕ → Option Block
block_with blocks number = find (λ block. block.number == number) blocks
