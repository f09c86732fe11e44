use Rattle.cbor_profile.specs.Feeds.{feeds_both}
use Rattle.bp_primary.specs.Spelling.{nodes}
use Rattle.bp_primary.proofs.primary.Primary.feed_nodes.Goals as goal

pub returns-clause-stands : goal.returns-clause-stands
unfolding nodes
returns-clause-stands g c =
    let stands = g.F.Feed.stands_for in
    let most = g.F.Feed.MOST in
    feeds_both stands most (feeds_both stands most c.feed_into.ensures.stands c.feed_into-2.ensures.stands) c.feed_into-3.ensures.stands
