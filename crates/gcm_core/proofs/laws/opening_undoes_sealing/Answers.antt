use Rattle.gcm_core.proofs.LawLemmas.{sealed_is_opened}
use Rattle.gcm_core.proofs.laws.opening_undoes_sealing.Goals as goal

pub returns : goal.returns
returns c = sealed_is_opened
