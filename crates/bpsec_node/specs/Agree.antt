-- Keys that agree on some operations.
use Rattle.std.specs.Prelude.{◌≡◌, ℕ, List, Contains, Option}
use Rattle.bpsec_asb.specs.declared.operation.OpId.{OpId}
use Rattle.bpsec_node.specs.Situation.{Situation}

-- the same bundle, policy and suite, with other keys
abbrev pub with_keys : Situation → (OpId → Option (List ℕ)) → Situation
with_keys s key = record s { key = key }

-- each of these operations has the same key, or both times none
abbrev pub Agree : Situation → (OpId → Option (List ℕ)) → List OpId → Type 0
Agree s key ops = (op : OpId) → Contains ops op → s.key op ≡ key op
