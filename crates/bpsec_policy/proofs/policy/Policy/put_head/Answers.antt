use Rattle.bpsec_policy.proofs.Lawful.{policy_parts}
use Rattle.bpsec_policy.proofs.policy.Policy.put_head.Goals as goal

pub default_value-requires : goal.default_value-requires
default_value-requires c = (policy_parts _ c.self.invariant).0
