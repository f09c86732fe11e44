use Rattle.cbor_profile.proofs.ItemGrammar.{one_item}
use Rattle.cbor_profile.proofs.laws.an_item_has_one_end.Goals as goal

pub returns : goal.returns
returns c = λ a b x y ha hb e. one_item a b x y ha hb e
