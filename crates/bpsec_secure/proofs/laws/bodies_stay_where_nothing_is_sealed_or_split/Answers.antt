use Rattle.bpsec_secure.proofs.LawLemmas.{body_stays}
use Rattle.bpsec_secure.proofs.laws.bodies_stay_where_nothing_is_sealed_or_split.Goals as goal

pub returns : goal.returns
returns c = body_stays
