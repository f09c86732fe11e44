use Rattle.cbor_profile.specs.Feeds.{Feeds, feeds_both}
use Rattle.std.proofs.Common.{◌+◌}
use Rattle.cbor_profile.specs.Put.{uint, array_head}
use Rattle.bp_crc.specs.Item.{check_count, check_type}
use Rattle.bp_primary.specs.Fragment.{fragment_count}
use Rattle.bp_primary.specs.Spelling.{front}
use Rattle.bp_primary.proofs.primary.Primary.feed_front.Goals as goal

pub returns-clause-stands : goal.returns-clause-stands
unfolding front
returns-clause-stands g c =
    let stands = g.F.Feed.stands_for in
    let most = g.F.Feed.MOST in
    let block = c.args.self.now in
    let items : Feeds stands most c.args.into.now c.feed_array.new.into (array_head (8 + fragment_count block.fragment + check_count block.crc)) = rw (← c.count.ensures) c.feed_array.ensures.stands in
    let type : Feeds stands most c.feed_uint-2.new.into c.feed_uint-3.new.into (uint (check_type block.crc)) = rw (← c.number.ensures) c.feed_uint-3.ensures.stands in
    feeds_both stands most (feeds_both stands most (feeds_both stands most items c.feed_uint.ensures.stands) c.feed_uint-2.ensures.stands) type
