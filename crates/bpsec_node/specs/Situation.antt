-- All that the outcome of a bundle at a node depends on.
use Rattle.std.specs.Prelude.{ℕ, ℤ, ◌==◌, ◌&&◌, Bool, List, Option}
use Rattle.std.specs.List.{list_any}
use Rattle.bp_bundle.specs.Shape.{Contents}
use Rattle.bpsec_asb.specs.declared.asb.Pair.{Pair}
use Rattle.bpsec_asb.specs.declared.operation.OpId.{OpId}
use Rattle.bpsec_scope.specs.Parts.{Parts}
use Rattle.bpsec_context.specs.declared.judgement.Judgement.{Judgement}
use Rattle.bpsec_policy.specs.Rules as policies
use Rattle.bpsec_policy.specs.Rules.{same_service}

-- What a suite of security contexts means, in the words of `Suite`: the scope flags of a context's parameters, the judgement
-- of an integrity operation, that of a confidentiality operation on a body, and the body that it opens.
pub record Meaning : Type 0 where
  pub scope : ℤ → List Pair → ℕ
  pub judged : ℤ → Option (List ℕ) → List Pair → List Pair → Parts → Judgement
  pub checked : ℤ → Option (List ℕ) → List Pair → List Pair → Parts → List ℕ → Judgement
  pub opened : ℤ → Option (List ℕ) → List Pair → List Pair → Parts → List ℕ → List ℕ

abbrev pub meaning : (ℤ → List Pair → ℕ) → (ℤ → Option (List ℕ) → List Pair → List Pair → Parts → Judgement)
    → (ℤ → Option (List ℕ) → List Pair → List Pair → Parts → List ℕ → Judgement)
    → (ℤ → Option (List ℕ) → List Pair → List Pair → Parts → List ℕ → List ℕ) → Meaning
meaning scope judged checked opened = record { scope = scope; judged = judged; checked = checked; opened = opened }

-- A bundle as it was received, the policy of the node, the suite that it serves, and for each operation a key or none.
pub record Situation : Type 0 where
  pub bundle : Contents
  pub policy : policies.Parts
  pub suite : Meaning
  pub key : OpId → Option (List ℕ)

-- ---- operations

abbrev pub is_op : OpId → OpId → Bool
is_op a b = same_service a.service b.service && (a.block == b.block && a.target == b.target)

abbrev pub is_among : List OpId → OpId → Bool
is_among ops op = list_any (is_op op) ops
