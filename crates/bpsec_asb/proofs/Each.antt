-- Items read one after the other.
use Rattle.std.proofs.Common.{◌≡◌, ℕ, suc, ◌+◌, ◌-◌, ◌<◌, List, [], ◌∷◌, ◌++◌, Result, Ok, refl, arith}
use Rattle.bp_eid.specs.declared.stop.Stop.{Stop}
use Rattle.bpsec_asb.specs.Reading.{each_at}

-- one item more
pub each_at-more : {A : Type 0} (item_at : List A → List ℕ → Result (A × List ℕ) Stop) (count counter : ℕ) (before : List A) (bytes : List ℕ) (x : A × List ℕ) → counter < count → item_at before bytes ≡ Ok x
    → each_at item_at (count - counter) before bytes ≡ each_at item_at (count - (counter + 1)) (before ++ x.0 ∷ []) x.1
unfolding each_at
each_at-more item_at count counter before bytes x lt read =
    let left : count - counter ≡ suc (count - (counter + 1)) = omega arith in
    rw (left, read) refl
