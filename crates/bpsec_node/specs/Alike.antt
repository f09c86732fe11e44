-- Sessions in which operations were handed the same keys.
use Rattle.std.specs.Prelude.{◌≡◌, Contains}
use Rattle.bpsec_asb.specs.declared.operation.OpId.{OpId}
use Rattle.bpsec_node.specs.View.{Progress, key_in}

-- They are over one bundle and one policy, and each operation that the first did was handed the same key in both, or none in both.
pub record Alike (p q : Progress) : Type 0 where
  pub received : p.received ≡ q.received
  pub policy : p.policy ≡ q.policy
  pub keys : (op : OpId) → Contains p.done op → key_in p.done p.keys op ≡ key_in q.done q.keys op
