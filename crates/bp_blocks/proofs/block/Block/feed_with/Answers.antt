use Rattle.std.proofs.Common.{◌+◌}
use Rattle.cbor_profile.specs.Put.{uint, array_head, byte_string}
use Rattle.cbor_profile.specs.Feeds.{Feeds, feeds_both}
use Rattle.bp_crc.specs.Item.{check_count, check_type}
use Rattle.bp_blocks.specs.Spelling.{array_with}
use Rattle.bp_blocks.proofs.block.Block.feed_with.Goals as goal

pub returns-clause-stands : goal.returns-clause-stands
unfolding array_with
returns-clause-stands g c =
    let stands = g.F.Feed.stands_for in
    let most = g.F.Feed.MOST in
    let block = c.args.self.now in
    let items : Feeds stands most c.args.into.now c.feed_array.new.into (array_head (5 + check_count block.crc)) = rw (← c.count.ensures) c.feed_array.ensures.stands in
    let type : Feeds stands most c.feed_uint-3.new.into c.feed_uint-4.new.into (uint (check_type block.crc)) = rw (← c.number.ensures) c.feed_uint-4.ensures.stands in
    let body : Feeds stands most c.feed_uint-4.new.into c.feed_bytes.new.into (byte_string block.body) = rw (← c.as_slice.ensures) c.feed_bytes.ensures.stands in
    feeds_both stands most
    (feeds_both stands most
    (feeds_both stands most
    (feeds_both stands most (feeds_both stands most (feeds_both stands most items c.feed_uint.ensures.stands) c.feed_uint-2.ensures.stands) c.feed_uint-3.ensures.stands)
    type)
    body)
    c.feed.ensures.stands
