use Rattle.cbor_profile.specs.Feeds.{feeds_both}
use Rattle.bp_primary.specs.Spelling.{array_with}
use Rattle.bp_primary.proofs.primary.Primary.feed_with.Goals as goal

pub returns-clause-stands : goal.returns-clause-stands
unfolding array_with
returns-clause-stands g c =
    let stands = g.F.Feed.stands_for in
    let most = g.F.Feed.MOST in
    feeds_both stands most
    (feeds_both stands most
    (feeds_both stands most (feeds_both stands most c.feed_front.ensures.stands c.feed_nodes.ensures.stands) c.feed_times.ensures.stands)
    c.feed_fragment.ensures.stands)
    c.feed.ensures.stands
