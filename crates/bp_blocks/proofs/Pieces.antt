-- How long the pieces of a block are.
use Rattle.std.proofs.Common.{◌≡◌, ℕ, ◌+◌, ◌^◌, ◌<◌, ◌≤◌, List, length, refl, arith, length-append}
use Rattle.cbor_profile.specs.Put.{uint, byte_string, array_head}
use Rattle.cbor_profile.proofs.Sizes.{head_at_most, string_at_most}
use Rattle.bp_crc.specs.Check.{check_bytes}
use Rattle.bp_crc.specs.declared.kind.CheckKind.{CheckKind}
use Rattle.bp_crc.specs.declared.kind.CheckKind.TheVariants.{None, Crc16, Crc32c}
use Rattle.bp_blocks.specs.declared.block.Block.{Block}
use Rattle.bp_crc.specs.Item.{zeros, check_item, check_count, check_type}
use Rattle.bp_blocks.specs.Spelling.{IsBlock, array_with, spelling}

length-check_item : (kind : CheckKind) (check : List ℕ) → length (check_item kind check) ≤ length check + 9
length-check_item None check = omega arith
length-check_item Crc16 check = string_at_most check
length-check_item Crc32c check = string_at_most check

-- an array's length is a number of 64 bits
pub short_array : (block : Block) (check : List ℕ) → IsBlock block → length check ≤ 4 → length (array_with block check) < 2 ^ 64
unfolding array_with uint array_head
short_array block check fits few =
    let items = head_at_most 4 (5 + check_count block.crc) in
    let kind = head_at_most 0 block.kind in
    let number = head_at_most 0 block.number in
    let flags = head_at_most 0 block.flags in
    let type = head_at_most 0 (check_type block.crc) in
    let body = string_at_most block.body in
    let item = length-check_item block.crc check in
    simp length-append (omega arith)

-- the item of a check is as long as that of zeros in its place
same_item : (kind : CheckKind) (bytes : List ℕ) → length (check_item kind (check_bytes kind bytes)) ≡ length (check_item kind (zeros kind))
unfolding byte_string
same_item None bytes = refl
same_item Crc16 bytes = simp length-append
same_item Crc32c bytes = simp length-append

pub length-spelling : (block : Block) → length (spelling block) ≡ length (array_with block (zeros block.crc))
unfolding spelling array_with
length-spelling block = let item = same_item block.crc (array_with block (zeros block.crc)) in simp length-append (omega (arith, item))
