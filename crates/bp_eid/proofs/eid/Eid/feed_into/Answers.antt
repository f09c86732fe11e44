use Rattle.cbor_profile.specs.Feeds.{feeds_both}
use Rattle.bp_eid.specs.EndpointId.{spelling}
use Rattle.bp_eid.proofs.eid.Eid.feed_into.Goals as goal

pub returns-in-Null-clause-stands : goal.returns-in-Null-clause-stands
unfolding spelling
returns-in-Null-clause-stands g c =
    let stands = g.F.Feed.stands_for in
    let most = g.F.Feed.MOST in
    rw c.in-Null.is (feeds_both stands most c.feed_array.ensures.stands (feeds_both stands most c.feed_uint.ensures.stands c.feed_uint-in-Null.ensures.stands))

pub returns-in-Dtn-clause-stands : goal.returns-in-Dtn-clause-stands
unfolding spelling
returns-in-Dtn-clause-stands g c =
    let stands = g.F.Feed.stands_for in
    let most = g.F.Feed.MOST in
    rw (c.in-Dtn.is, ← c.bytes.ensures.value) (feeds_both stands most c.feed_array.ensures.stands (feeds_both stands most c.feed_uint-in-Dtn.ensures.stands c.feed_text.ensures.stands))

pub returns-in-Ipn-clause-stands : goal.returns-in-Ipn-clause-stands
unfolding spelling
returns-in-Ipn-clause-stands g c =
    let stands = g.F.Feed.stands_for in
    let most = g.F.Feed.MOST in
    rw c.in-Ipn.is (feeds_both stands most c.feed_array.ensures.stands (feeds_both stands most c.feed_uint-in-Ipn.ensures.stands
    (feeds_both stands most c.feed_array-in-Ipn.ensures.stands (feeds_both stands most c.feed_uint-in-Ipn-2.ensures.stands c.feed_uint-in-Ipn-3.ensures.stands))))
