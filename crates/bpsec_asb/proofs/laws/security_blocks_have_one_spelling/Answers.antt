use Rattle.bpsec_asb.proofs.Stays.{one_spelling}
use Rattle.bpsec_asb.proofs.laws.security_blocks_have_one_spelling.Goals as goal

pub returns : goal.returns
returns c = λ a b x y ha hb e. one_spelling a b x y ha hb e
