-- How many bytes a canonical block and a primary block have.
use Rattle.std.proofs.Common.{◌≡◌, ℕ, ◌+◌, ◌<◌, List, ◌∷◌, length, refl, arith, length-append}
use Rattle.cbor_profile.specs.Put.{uint, byte_string, array_head}
use Rattle.cbor_profile.proofs.Sizes.{head_one}
use Rattle.bp_crc.specs.declared.kind.CheckKind.{CheckKind}
use Rattle.bp_crc.specs.declared.kind.CheckKind.TheVariants as kinds
use Rattle.bp_crc.specs.Item.{check_type, check_count, check_item, zeros}
use Rattle.bp_primary.specs.declared.primary.Primary.{Primary}
use Rattle.bp_primary.specs.Fragment.{fragment_count, fragment_items}
use Rattle.bp_primary.specs.Spelling as primaries
use Rattle.bp_primary.specs.Spelling.{front, nodes, times}
use Rattle.bp_primary.proofs.Pieces as primary_pieces
use Rattle.bp_primary.proofs.Pieces.{few_items, small_type}
use Rattle.bp_blocks.specs.declared.block.Block.{Block}
use Rattle.bp_blocks.specs.Spelling as blocks
use Rattle.bp_blocks.proofs.Pieces as block_pieces
use Rattle.bp_bundle.specs.Edits.{check_size}

item_size : (kind : CheckKind) → length (check_item kind (zeros kind)) ≡ check_size kind
unfolding byte_string
item_size kinds.None = refl
item_size kinds.Crc16 = refl
item_size kinds.Crc32c = refl

few_checks : (kind : CheckKind) → 5 + check_count kind < 24
few_checks kinds.None = omega arith
few_checks kinds.Crc16 = omega arith
few_checks kinds.Crc32c = omega arith

number_size : (n : ℕ) → n < 24 → length (uint n) ≡ 1
unfolding uint
number_size n small = head_one 0 n small

pub block_size : (block : Block) → length (blocks.spelling block)
    ≡ 2 + length (uint block.kind) + length (uint block.number) + length (uint block.flags) + length (byte_string block.body) + check_size block.crc
unfolding blocks.array_with array_head
block_size block =
    let items = head_one 4 (5 + check_count block.crc) (few_checks block.crc) in
    let type = number_size (check_type block.crc) (small_type block.crc) in
    let item = item_size block.crc in
    rw (block_pieces.length-spelling block) (simp length-append (omega arith))

pub primary_size : (primary : Primary) → length (primaries.spelling primary)
    ≡ 3 + length (uint primary.flags) + length (nodes primary) + length (times primary) + length (fragment_items primary.fragment) + check_size primary.crc
unfolding primaries.array_with front array_head
primary_size primary =
    let items = head_one 4 (8 + fragment_count primary.fragment + check_count primary.crc) (few_items primary) in
    let version = number_size 7 (omega arith) in
    let type = number_size (check_type primary.crc) (small_type primary.crc) in
    let item = item_size primary.crc in
    rw (primary_pieces.length-spelling primary) (simp length-append (omega arith))
