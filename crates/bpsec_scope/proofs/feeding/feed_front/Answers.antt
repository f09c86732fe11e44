use Rattle.std.proofs.Common.{◌%◌, arith, length-append}
use Rattle.cbor_profile.specs.Feeds.{feeds_both}
use Rattle.bpsec_scope.specs.Covered.{front, scoped}
use Rattle.cbor_profile.proofs.Sizes.{uint_at_most}
use Rattle.bpsec_scope.proofs.feeding.feed_front.Goals as goal

pub returns-clause-stands : goal.returns-clause-stands
unfolding front scoped
returns-clause-stands g c =
    let stands = g.F.Feed.stands_for in
    let most = g.F.Feed.MOST in
    feeds_both stands most
    (feeds_both stands most (feeds_both stands most c.feed_uint.ensures.stands c.feed_primary.ensures.stands) c.feed_target_header.ensures.stands)
    c.feed_security_header.ensures.stands

pub returns-clause-short : goal.returns-clause-short
unfolding front scoped
returns-clause-short g c =
    let flags = uint_at_most (c.args.scope % 8) in
    simp length-append (omega (arith, c.feed_primary.ensures.short, c.feed_target_header.ensures.short, c.feed_security_header.ensures.short))
