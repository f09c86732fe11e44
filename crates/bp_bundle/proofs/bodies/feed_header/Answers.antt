use Rattle.std.proofs.Common.{◌≡◌, ℕ, List, ◌++◌}
use Rattle.cbor_profile.specs.Feeds.{feeds_both}
use Rattle.bp_bundle.specs.HeaderText.{header_text}
use Rattle.bp_bundle.proofs.bodies.feed_header.Goals as goal

pub returns-clause-stands : goal.returns-clause-stands
unfolding header_text
returns-clause-stands g c =
    let S = g.F.Feed.stands_for in
    let M = g.F.Feed.MOST in
    let first = rw c.count.ensures at c.feed_array.ensures.stands in
    let fifth = rw c.number.ensures at c.feed_uint-4.ensures.stands in
    feeds_both S M (feeds_both S M (feeds_both S M (feeds_both S M (feeds_both S M first c.feed_uint.ensures.stands) c.feed_uint-2.ensures.stands) c.feed_uint-3.ensures.stands) fifth) c.feed_string_head.ensures.stands
