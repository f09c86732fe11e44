use Rattle.gcm_core.proofs.LawLemmas.{opened_is_sealed}
use Rattle.gcm_core.proofs.laws.opened_body_is_the_sealed_one.Goals as goal

pub returns : goal.returns
returns c = opened_is_sealed
