use Rattle.std.proofs.Common.{◌≡◌, ◌+◌, List, ℕ, ◌++◌, arith, append_assoc}
use Rattle.cbor_profile.specs.Put.{uint, array_head}
use Rattle.bp_crc.specs.Check.{check_bytes}
use Rattle.bp_crc.specs.Item.{check_count, check_item, check_type, zeros}
use Rattle.bp_primary.specs.declared.primary.Primary.{Primary}
use Rattle.bp_primary.specs.Fragment.{fragment_items, fragment_count}
use Rattle.bp_primary.specs.Spelling.{array_with, front, nodes, times, spelling}
use Rattle.bp_primary.proofs.Pieces.{at_most_items}
use Rattle.bp_primary.proofs.laws.primary_blocks_are_arrays.Goals as goal

items : Primary → List ℕ → List ℕ
items primary check =
    uint 7 ++ (uint primary.flags ++ (uint (check_type primary.crc) ++ (nodes primary ++ (times primary ++ (fragment_items primary.fragment ++ check_item primary.crc check)))))

begins : (primary : Primary) (check : List ℕ) → array_with primary check ≡ array_head (8 + fragment_count primary.fragment + check_count primary.crc) ++ items primary check
unfolding array_with front items
begins primary check = simp append_assoc

pub returns : goal.returns
unfolding spelling
returns c = λ primary.
    (_, _, omega arith, at_most_items primary, begins primary (check_bytes primary.crc (array_with primary (zeros primary.crc))))
