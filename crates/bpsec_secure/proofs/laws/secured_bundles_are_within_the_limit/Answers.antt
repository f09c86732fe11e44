use Rattle.bpsec_secure.proofs.LawLemmas.{within}
use Rattle.bpsec_secure.proofs.laws.secured_bundles_are_within_the_limit.Goals as goal

pub returns : goal.returns
returns c = within
