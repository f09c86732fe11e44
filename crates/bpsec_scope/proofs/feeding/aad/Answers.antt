use Rattle.std.proofs.Common.{arith}
use Rattle.bpsec_scope.specs.Covered.{aad}
use Rattle.bpsec_scope.proofs.feeding.aad.Goals as goal

pub returns-clause-stands : goal.returns-clause-stands
unfolding aad
returns-clause-stands g c = c.feed_front.ensures.stands

pub returns-clause-short : goal.returns-clause-short
unfolding aad
returns-clause-short g c = omega (arith, c.feed_front.ensures.short)
