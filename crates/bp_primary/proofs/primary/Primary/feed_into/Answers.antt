use Rattle.std.proofs.Common.{◌≡◌, ◌^◌, ◌<◌, length, ◌∙◌, ap, arith}
use Rattle.bp_primary.specs.Spelling.{array_with, spelling}
use Rattle.bp_primary.proofs.primary.Primary.feed_into.Goals as goal

pub returns-clause-stands : goal.returns-clause-stands
unfolding spelling
returns-clause-stands g c = λ fed holds room.
    let primary = c.args.self.now in
    let short : length (spelling primary) < 2 ^ 64 = omega arith in
    let whole = ap (array_with primary) (c.as_slice.ensures ∙ c.check-check.ensures short) in
    (rw whole at c.feed_with.ensures.stands) fed holds room
