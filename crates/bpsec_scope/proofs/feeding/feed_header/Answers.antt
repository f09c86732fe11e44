use Rattle.bpsec_scope.proofs.Lengths.{header_is_short}
use Rattle.bpsec_scope.proofs.feeding.feed_header.Goals as goal

pub returns-clause-short : goal.returns-clause-short
returns-clause-short g c = header_is_short c.args.header
