-- Results as a loop goes over one target more.
use Rattle.std.proofs.Common.{◌≡◌, ℕ, zero, suc, ◌+◌, ◌<◌, Bool, true, false, cond, List, [], ◌∷◌, ◌++◌, length, take, get_or, refl, sym, ◌∙◌, ap, arith}
use Rattle.std.specs.Prelude.{slice_get}
use Rattle.bpsec_asb.specs.declared.asb.Pair.{Pair}
use Rattle.bpsec_node.specs.Outcome.{results_without}
use Rattle.bpsec_node.specs.Finished.{kept_one}

none_kept : (p : ℕ → Bool) (targets : List ℕ) → results_without p targets [] ≡ []
none_kept p [] = refl
none_kept p (target ∷ targets) = refl

nothing : (b : Bool) → kept_one b (slice_get [] 0) ≡ []
nothing true = refl
nothing false = refl

results_suc : (p : ℕ → Bool) (targets : List ℕ) (results : List (List Pair)) (i : ℕ) (d : ℕ) → i < length targets
    → results_without p (take (suc i) targets) results ≡ results_without p (take i targets) results ++ kept_one (p (get_or targets i d)) (slice_get results i)
results_suc p [] results i d within = absurd (omega arith)
results_suc p (target ∷ targets) [] i d within = none_kept p (take (suc i) (target ∷ targets)) ∙ sym (ap (λ (rs : List (List Pair)). rs ++ kept_one (p (get_or (target ∷ targets) i d)) (slice_get [] i)) (none_kept p (take i (target ∷ targets))) ∙ nothing_at (p (get_or (target ∷ targets) i d)) i)
  where
    nothing_at : (b : Bool) (i : ℕ) → kept_one b (slice_get [] i) ≡ []
    nothing_at true i = refl
    nothing_at false i = refl
results_suc p (target ∷ targets) (result ∷ results) zero d within = first (p target)
  where
    first : (b : Bool) → cond b [] (result ∷ []) ≡ kept_one b (slice_get (result ∷ results) 0)
    first true = refl
    first false = refl
results_suc p (target ∷ targets) (result ∷ results) (suc i) d within = rest (p target) (results_suc p targets results i d (omega arith))
  where
    rest : (b : Bool) → results_without p (take (suc i) targets) results ≡ results_without p (take i targets) results ++ kept_one (p (get_or targets i d)) (slice_get results i)
        → cond b (results_without p (take (suc i) targets) results) (result ∷ results_without p (take (suc i) targets) results) ≡ cond b (results_without p (take i targets) results) (result ∷ results_without p (take i targets) results) ++ kept_one (p (get_or targets i d)) (slice_get results i)
    rest true e = e
    rest false e = ap (λ (rs : List (List Pair)). result ∷ rs) e

pub results_more : (p : ℕ → Bool) (targets : List ℕ) (results : List (List Pair)) (i : ℕ) (d : ℕ) → i < length targets
    → results_without p (take (i + 1) targets) results ≡ results_without p (take i targets) results ++ kept_one (p (get_or targets i d)) (slice_get results i)
results_more p targets results i d within =
    let one : i + 1 ≡ suc i = omega arith in
    ap (λ n. results_without p (take n targets) results) one ∙ results_suc p targets results i d within
