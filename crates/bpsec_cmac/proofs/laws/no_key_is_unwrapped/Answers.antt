use Rattle.bpsec_cmac.proofs.ContextLemmas.{no_unwrap}
use Rattle.bpsec_cmac.proofs.laws.no_key_is_unwrapped.Goals as goal

pub returns : goal.returns
returns c = no_unwrap
