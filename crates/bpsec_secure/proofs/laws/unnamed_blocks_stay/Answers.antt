use Rattle.bpsec_secure.proofs.LawLemmas.{unnamed_stays}
use Rattle.bpsec_secure.proofs.laws.unnamed_blocks_stay.Goals as goal

pub returns : goal.returns
returns c = unnamed_stays
