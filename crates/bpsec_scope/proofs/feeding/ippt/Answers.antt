use Rattle.std.proofs.Common.{arith, length-append}
use Rattle.cbor_profile.specs.Feeds.{feeds_both}
use Rattle.bpsec_scope.specs.Covered.{ippt, scoped}
use Rattle.bpsec_scope.proofs.feeding.ippt.Goals as goal

pub returns-clause-stands : goal.returns-clause-stands
unfolding ippt scoped
returns-clause-stands g c =
    feeds_both g.F.Feed.stands_for g.F.Feed.MOST c.feed_front.ensures.stands c.feed_content.ensures.stands

pub returns-clause-short : goal.returns-clause-short
unfolding ippt scoped
returns-clause-short g c =
    simp length-append (omega (arith, c.feed_front.ensures.short, c.feed_content.ensures.short))
