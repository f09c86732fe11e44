use Rattle.cbor_profile.proofs.Heads.{one_spelling}
use Rattle.cbor_profile.proofs.laws.heads_have_one_spelling.Goals as goal

pub returns : goal.returns
returns c = λ a b x y ha hb e. one_spelling a b x y ha hb e
