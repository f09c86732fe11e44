use Rattle.bpsec_policy.proofs.Lawful.{all_units}
use Rattle.bpsec_policy.proofs.put_text.targets_value.Goals as goal

pub array_of-requires : goal.array_of-requires
array_of-requires c = all_units _
