use Rattle.cbor_profile.specs.Feeds.{feeds_both}
use Rattle.bp_primary.specs.Spelling.{times}
use Rattle.bp_primary.proofs.primary.Primary.feed_times.Goals as goal

pub returns-clause-stands : goal.returns-clause-stands
unfolding times
returns-clause-stands g c =
    let stands = g.F.Feed.stands_for in
    let most = g.F.Feed.MOST in
    feeds_both stands most
    (feeds_both stands most (feeds_both stands most c.feed_array.ensures.stands c.feed_uint.ensures.stands) c.feed_uint-2.ensures.stands)
    c.feed_uint-3.ensures.stands
