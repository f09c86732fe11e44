use Rattle.cbor_profile.proofs.ItemFaults.{item_answer_stands}
use Rattle.cbor_profile.proofs.laws.items_are_judged_from_the_left.Goals as goal

pub returns : goal.returns
returns c = λ bytes more whole. item_answer_stands bytes more whole
