-- What contracts see of a session and of its end.
use Rattle.std.specs.Prelude.{◌≡◌, ℕ, ℤ, if◌then◌else◌, List, [], ◌∷◌, ◌++◌, map, Option, Some, None}
use Rattle.bp_bundle.specs.Shape.{Contents}
use Rattle.bpsec_asb.specs.declared.asb.Pair.{Pair}
use Rattle.bpsec_asb.specs.declared.operation.OpId.{OpId}
use Rattle.bpsec_scope.specs.Parts.{Parts}
use Rattle.bpsec_context.specs.declared.judgement.Judgement.{Judgement}
use Rattle.bpsec_policy.specs.Rules as policies
use Rattle.bpsec_node.specs.declared.event.Event.{Event}
use Rattle.bpsec_node.specs.declared.event.Verdict.{Verdict}
use Rattle.bpsec_node.specs.Situation.{Meaning, Situation, is_op}
use Rattle.bpsec_node.specs.Verdict.{step_verdict}
use Rattle.bpsec_node.specs.Outcome.{Outcome, outcome}

-- a session: the bundle as it was received, the policy, the operations that are done, and for each the key that was handed in
pub record Progress : Type 0 where
  pub received : Contents
  pub policy : policies.Parts
  pub done : List OpId
  pub keys : List (Option (List ℕ))

-- the key that was handed in for an operation, and none where it isn't done
abbrev pub key_in : List OpId → List (Option (List ℕ)) → OpId → Option (List ℕ)
key_in [] keys op = None
key_in (one ∷ done) [] op = None
key_in (one ∷ done) (key ∷ keys) op = if is_op op one then key else key_in done keys op

-- the situation of a session, in which each operation has the key that was handed in
unfoldable pub situation : Meaning → Progress → Situation
situation suite p = record { bundle = p.received; policy = p.policy; suite = suite; key = key_in p.done p.keys }

abbrev pub SameProgress : Progress → Progress → Type 0
SameProgress p q = p ≡ q

-- the session after a further step
abbrev pub after_step : Progress → OpId → Option (List ℕ) → Progress
after_step p op key = record p { done = p.done ++ op ∷ []; keys = p.keys ++ key ∷ [] }

-- the end of a session: events and bundle, and what was done with the verdict of each step
pub record End : Type 0 where
  pub outcome : Outcome
  pub done : List OpId
  pub verdicts : List Verdict

unfoldable pub end_of : Situation → List OpId → End
end_of s done = record { outcome = outcome s; done = done; verdicts = map (step_verdict s) done }
