-- The spelling of a canonical block: RFC 9171, section 4.3.2, with its check by section 4.2.1.
use Rattle.std.specs.Prelude.{ℕ, ◌+◌, ◌^◌, ◌<◌, List, ◌++◌, length}
use Rattle.cbor_profile.specs.Put.{uint, byte_string, array_head}
use Rattle.bp_crc.specs.Check.{check_bytes}
use Rattle.bp_crc.specs.Item.{check_type, check_count, check_item, zeros}
use Rattle.bp_blocks.specs.declared.block.Block.{Block}

-- The array: block type, block number, flags, check type, the body as one byte string, and where there is a check, the
-- item with these bytes.
unfoldable pub array_with : Block → List ℕ → List ℕ
array_with block check =
    array_head (5 + check_count block.crc) ++ uint block.kind ++ uint block.number ++ uint block.flags ++ uint (check_type block.crc)
    ++ byte_string block.body ++ check_item block.crc check

-- The check is over the whole array with the check's own bytes taken as zero.
unfoldable pub spelling : Block → List ℕ
spelling block = array_with block (check_bytes block.crc (array_with block (zeros block.crc)))

-- what every block keeps: the numbers of 64 bits, and a body that memory holds
pub record IsBlock (block : Block) : Type 0 where
  pub kind : block.kind < 2 ^ 64
  pub number : block.number < 2 ^ 64
  pub flags : block.flags < 2 ^ 64
  pub body : length block.body < 2 ^ 63
