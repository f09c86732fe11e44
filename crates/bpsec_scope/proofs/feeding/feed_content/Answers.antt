use Rattle.std.proofs.Common.{arith}
use Rattle.cbor_profile.proofs.Sizes.{string_at_most}
use Rattle.bpsec_scope.proofs.feeding.feed_content.Goals as goal

pub returns-in-Body-clause-short : goal.returns-in-Body-clause-short
returns-in-Body-clause-short g c =
    let short = string_at_most c.in-Body.body.now in rw c.in-Body.is (omega arith)
