-- Which key each operation has by a key ring.
use Rattle.std.specs.Prelude.{ℕ, ◌&&◌, Bool, if◌then◌else◌, List, [], Option, Some, None}
use Rattle.bp_bundle.specs.Shape.{Contents}
use Rattle.bpsec_asb.specs.declared.operation.OpId.{OpId}
use Rattle.bpsec_policy.specs.declared.ring.NamedKey.{NamedKey}
use Rattle.bpsec_policy.specs.Rules as policies
use Rattle.bpsec_policy.specs.Ring.{key_of}
use Rattle.bpsec_node.specs.Situation.{Meaning, Situation, is_among}
use Rattle.bpsec_node.specs.Verdict.{rule}

-- the key of a name, or none
abbrev pub key_named : List NamedKey → Option (List ℕ) → Option (List ℕ)
key_named ring None = None
key_named ring (Some name) = key_of ring name

-- the key that an operation's rule names in the ring
abbrev pub ring_key : Situation → List NamedKey → OpId → Option (List ℕ)
ring_key s ring op = key_named ring (rule s op).key

-- the keys of these operations stay, and all others have the ring's
abbrev pub others_by : Situation → List OpId → List NamedKey → Situation
others_by s done ring = record s { key = λ op. if is_among done op then s.key op else ring_key s ring op }

-- Each operation of `done` has its key, and all others the ring's. The rule of an operation of a sealed block integrity block
-- is known once that is opened, by keys of confidentiality operations; their rules depend on no key. So the second time each
-- operation has the key that its own rule names.
unfoldable pub with_ring : Situation → List OpId → List NamedKey → Situation
with_ring s done ring =
    let covering = others_by s done ring in
    record s { key = λ op. if is_among done op then s.key op else ring_key covering ring op }

-- a bundle at a node with this policy, suite and key ring
unfoldable pub at_node : Meaning → Contents → policies.Parts → List NamedKey → Situation
at_node suite bundle policy ring = with_ring (record { bundle = bundle; policy = policy; suite = suite; key = λ op. None }) [] ring
