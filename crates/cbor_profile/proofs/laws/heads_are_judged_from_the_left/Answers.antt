use Rattle.cbor_profile.proofs.HeadFaults.{answer_stands}
use Rattle.cbor_profile.proofs.laws.heads_are_judged_from_the_left.Goals as goal

pub returns : goal.returns
returns c = λ bytes more whole. answer_stands bytes more whole
