-- Targets that differ from those before them are distinct.
use Rattle.std.proofs.Common.{◌≡◌, ◌≢◌, ℕ, ◌^◌, ◌<◌, false, eqb, List, [], ◌∷◌, ◌++◌, length, get_or, sym, ◌∙◌, subst, append_assoc, arith}
use Rattle.std.specs.Prelude.{All, AllPairs}
use Rattle.std.specs.List.{list_any}
use Rattle.std.proofs.lemmas.Bool.{eq-eqb, ne_eqb}
use Rattle.std.proofs.Math.Seq.{get_or-append_seam}
use Rattle.std.proofs.Math.ListN.{get_or-append}
use Rattle.std.proofs.lemmas.List.{append-nil, length-append}
use Rattle.std.proofs.lemmas.List.Elements.{All-cons, All-head, All-tail, All-nil}
use Rattle.std.proofs.lemmas.List.Folds.{list_any_none, list_any_at}
use Rattle.std.proofs.lemmas.List.Quantifiers.{all_pairs_push}
use Rattle.bpsec_asb.proofs.Arrays.{AllAfter}
use Rattle.bpsec_asb.proofs.Fields.{FitsTarget}

-- one that isn't listed differs from each that is
other_than_each : (before : List ℕ) (target : ℕ) → list_any (λ listed. eqb listed target) before ≡ false → (k : ℕ) (d : ℕ) → k < length before → get_or before k d ≢ target
other_than_each before target none k d lt e =
    let found = list_any_at (λ listed. eqb listed target) before k d lt (eq-eqb _ _ e) in
    cc

joined : (before : List ℕ) (x : ℕ) (xs : List ℕ) → (before ++ x ∷ []) ++ xs ≡ before ++ x ∷ xs
joined before x xs = append_assoc before (x ∷ []) xs

distinct_after : (before targets : List ℕ) → AllPairs ◌≢◌ before → AllAfter FitsTarget before targets → AllPairs ◌≢◌ (before ++ targets)
distinct_after before [] distinct fits = subst (AllPairs ◌≢◌) (sym (append-nil before)) distinct
distinct_after before (x ∷ xs) distinct fits =
    let more : AllPairs ◌≢◌ (before ++ x ∷ []) = all_pairs_push ◌≢◌ before x distinct (other_than_each before x fits.0.1) in
    subst (AllPairs ◌≢◌) (joined before x xs) (distinct_after (before ++ x ∷ []) xs more fits.1)

pub distinct : (targets : List ℕ) → AllAfter FitsTarget [] targets → AllPairs ◌≢◌ targets
distinct targets fits = distinct_after [] targets (λ i j d lt in'. absurd (omega arith)) fits

pub small : (before targets : List ℕ) → AllAfter FitsTarget before targets → All (λ target. target < 2 ^ 64) targets
small before [] fits = All-nil (λ target. target < 2 ^ 64)
small before (x ∷ xs) fits = All-cons (λ target. target < 2 ^ 64) x xs fits.0.0 (small (before ++ x ∷ []) xs fits.1)

-- each differs from those before it
before_it : (before : List ℕ) (x : ℕ) (xs : List ℕ) → AllPairs ◌≢◌ (before ++ x ∷ xs) → list_any (λ listed. eqb listed x) before ≡ false
before_it before x xs apart = list_any_none (λ listed. eqb listed x) before (λ k d lt.
    let here : get_or (before ++ x ∷ xs) (length before) d ≡ x = get_or-append_seam before x xs d in
    let there : get_or (before ++ x ∷ xs) k d ≡ get_or before k d = get_or-append before (x ∷ xs) d k lt in
    ne_eqb _ _ (λ e. apart k (length before) d lt (omega (arith, length-append before (x ∷ xs))) (there ∙ e ∙ sym here)))

pub fits_after : (before targets : List ℕ) → AllPairs ◌≢◌ (before ++ targets) → All (λ target. target < 2 ^ 64) targets → AllAfter FitsTarget before targets
fits_after before [] apart fits = tt
fits_after before (x ∷ xs) apart fits = (
  (All-head (λ target. target < 2 ^ 64) x xs fits, before_it before x xs apart),
  fits_after (before ++ x ∷ []) xs (subst (AllPairs ◌≢◌) (sym (joined before x xs)) apart) (All-tail (λ target. target < 2 ^ 64) x xs fits),
)
