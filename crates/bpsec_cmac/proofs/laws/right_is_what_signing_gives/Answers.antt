use Rattle.bpsec_cmac.proofs.ContextLemmas.{right_is_signed}
use Rattle.bpsec_cmac.proofs.laws.right_is_what_signing_gives.Goals as goal

pub returns : goal.returns
returns c = right_is_signed
