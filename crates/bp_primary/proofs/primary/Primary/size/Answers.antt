use Rattle.std.proofs.Common.{◌+◌, arith, length-append}
use Rattle.cbor_profile.specs.Put.{uint, array_head}
use Rattle.cbor_profile.proofs.Sizes.{head_one}
use Rattle.bp_crc.specs.Item.{check_count, check_type}
use Rattle.bp_primary.specs.Fragment.{fragment_count}
use Rattle.bp_primary.specs.Spelling.{array_with, front, nodes, times}
use Rattle.bp_primary.proofs.Pieces.{length-spelling, few_items, small_type}
use Rattle.bp_primary.proofs.primary.Primary.size.Goals as goal

pub returns-clause-size : goal.returns-clause-size
unfolding array_with front nodes times uint array_head
returns-clause-size c =
    let primary = c.args.self.now in
    let items = head_one 4 (8 + fragment_count primary.fragment + check_count primary.crc) (few_items primary) in
    let version = head_one 0 7 (omega arith) in
    let type = head_one 0 (check_type primary.crc) (small_type primary.crc) in
    let pair = head_one 4 2 (omega arith) in
    rw (length-spelling primary) (simp length-append (omega arith))
