use Rattle.cbor_profile.proofs.HeadFaults.{bad_begins_none, none_begins_bad}
use Rattle.cbor_profile.proofs.laws.heads_are_bad_at_their_first_byte.Goals as goal

pub returns : goal.returns
returns c = λ first rest byte. (bad_begins_none first rest, none_begins_bad first rest byte)
