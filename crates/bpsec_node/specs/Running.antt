-- A session that runs with a key ring.
use Rattle.std.specs.Prelude.{◌≡◌, ℕ, ◌+◌, ◌≤◌, List, [], ◌∷◌, ◌++◌, map, length, slice_get, Option, Some}
use Rattle.bpsec_asb.specs.declared.operation.OpId.{OpId}
use Rattle.bpsec_policy.specs.declared.ring.NamedKey.{NamedKey}
use Rattle.bpsec_node.specs.Situation.{Meaning, Situation}
use Rattle.bpsec_node.specs.Order.{ready, picks}
use Rattle.bpsec_node.specs.Ring.{ring_key, with_ring}
use Rattle.bpsec_node.specs.View.{Progress, End, situation, after_step, end_of}

-- each operation that is done has the key that was handed in, and all others the ring's
abbrev pub ringed : Meaning → Progress → List NamedKey → Situation
ringed suite p ring = with_ring (situation suite p) p.done ring

-- The session picked the ready operation at the place that the chooser answers, and did it with the key that its rule names in
-- the ring.
pub record Stepped {C : Type 0} (answer : C → ℕ → ℕ) (suite : Meaning) (ring : List NamedKey) (before after : Progress) (chooser : C) : Type 0 where
  pub op : OpId
  pub picked : slice_get (ready (situation suite before) before.done) (answer chooser (length (ready (situation suite before) before.done))) ≡ Some op
  pub after_is : after ≡ after_step before op (ring_key (situation suite before) ring op)

-- After some steps: the same bundle and policy, and what was done with its keys, followed by the operations that the chooser
-- picked with the ring's keys.
pub record Ran {C : Type 0} (answer : C → ℕ → ℕ) (next : C → ℕ → C) (suite : Meaning) (ring : List NamedKey) (before after : Progress) (chooser : C) : Type 0 where
  pub more : List OpId
  pub received : after.received ≡ before.received
  pub policy : after.policy ≡ before.policy
  pub done : after.done ≡ before.done ++ more
  pub keys : after.keys ≡ before.keys ++ map (ringed suite before ring).key more
  pub picked : after.done ≡ picks answer next (ringed suite before ring) (length more) before.done chooser

-- The end: the outcome in which each operation that was done has the key that was handed in, and all others the ring's; and
-- what was done is what was done before, followed by what the chooser picked until nothing was ready.
pub record Ended {C : Type 0} (answer : C → ℕ → ℕ) (next : C → ℕ → C) (suite : Meaning) (ring : List NamedKey) (before : Progress) (chooser : C) (end : End) : Type 0 where
  pub steps : ℕ
  pub few : steps ≤ 4096
  pub picked : end.done ≡ picks answer next (ringed suite before ring) steps before.done chooser
  pub none : ready (ringed suite before ring) end.done ≡ []
  pub means : end ≡ end_of (ringed suite before ring) end.done
