-- Where reading an array stops.
use Rattle.std.proofs.Common.{◌≡◌, ℕ, zero, suc, ◌+◌, ◌^◌, ◌<◌, ◌≤◌, List, [], ◌∷◌, ◌++◌, length, Result, Err, refl, sym, ◌∙◌, ap, length-append, arith}
use Rattle.std.specs.List.{flat_map}
use Rattle.cbor_profile.specs.Put.{array_head}
use Rattle.bp_eid.specs.declared.stop.Stop.{Stop}
use Rattle.bp_bundle.proofs.HeadsAsSpelled.{IsBytes}
use Rattle.correct_prefix.proofs.StopsBehindPrefix.{Starting}
use Rattle.correct_prefix.proofs.FaultyHead.{SealLaws}
use Rattle.bpsec_asb.specs.Reading.{count_at, each_at, array_at}
use Rattle.bpsec_asb.specs.SecurityBlock.{array}
use Rattle.bpsec_asb.proofs.Arrays.{AllAfter, ReadsItems, count_means}
use Rattle.correct_prefix.proofs.Stopped.{Stopped, wider, same_kind, steps, first_stops, next_stops}
use Rattle.correct_prefix.proofs.Heads.{count_stops, count_again}

-- so many items, one after the other
abbrev Items : {A : Type 0} → (A → List ℕ) → (List A → A → Type 0) → ℕ → List A → List ℕ → Type 0
Items {A} item Fits count before text =
    (xs : List A) × (length xs ≡ count) × AllAfter Fits before xs × (text ≡ flat_map item xs)

-- an array of so many
abbrev pub IsArray : {A : Type 0} → (A → List ℕ) → (List A → A → Type 0) → ℕ → ℕ → List ℕ → Type 0
IsArray {A} item Fits least most text =
    (xs : List A) × (least ≤ length xs) × (length xs ≤ most) × AllAfter Fits [] xs × (text ≡ array item xs)

-- so many more items that fit
abbrev pub Filled : {A : Type 0} → (List A → A → Type 0) → ℕ → List A → Type 0
Filled {A} Fits count before = (xs : List A) × (length xs ≡ count) × AllAfter Fits before xs

-- where what stands before doesn't matter
pub fill_alone : {A : Type 0} (Fits : List A → A → Type 0) (x : A) → ((before : List A) → Fits before x) → (count : ℕ) (before : List A) → Filled Fits count before
fill_alone Fits x fits zero before = ([], refl, tt)
fill_alone Fits x fits (suc count) before = let others = fill_alone Fits x fits count (before ++ x ∷ []) in (x ∷ others.0, ap suc others.1, (fits before, others.2))

-- one item
abbrev pub IsOne : {A : Type 0} → (A → List ℕ) → (List A → A → Type 0) → List A → List ℕ → Type 0
IsOne {A} item Fits before text = (x : A) × Fits before x × (text ≡ item x)

pub record StopsItems {A : Type 0} (item : A → List ℕ) (Fits : List A → A → Type 0) (item_at : List A → List ℕ → Result (A × List ℕ) Stop) (bound : ℕ) : Type 0 where
  pub reads : ReadsItems item Fits item_at
  pub one : (before : List A) (bytes : List ℕ) (stop : Stop) → IsBytes bytes → item_at before bytes ≡ Err stop → length before < bound → Stopped (IsOne item Fits before) (item_at before) bytes stop
  pub fill : (count : ℕ) (before : List A) → length before + count ≤ bound → Filled Fits count before

each_stops : {A : Type 0} (item : A → List ℕ) (Fits : List A → A → Type 0) (item_at : List A → List ℕ → Result (A × List ℕ) Stop) (bound : ℕ) → StopsItems item Fits item_at bound
    → (count : ℕ) (before : List A) (bytes : List ℕ) (stop : Stop) → IsBytes bytes → length before + count ≤ bound → each_at item_at count before bytes ≡ Err stop → Stopped (Items item Fits count before) (each_at item_at count before) bytes stop
unfolding each_at
each_stops item Fits item_at bound stops zero before bytes stop small le e = absurd cc
each_stops {A} item Fits item_at bound stops (suc count) before bytes stop small le e =
    let Kind = Items item Fits (suc count) before in
    let f : List ℕ → A × List ℕ → Result (List A × List ℕ) Stop = λ b x. each_at item_at count (before ++ x.0 ∷ []) x.1 in
    steps (Stopped Kind (each_at item_at (suc count) before) bytes stop) (item_at before bytes) (f bytes) stop e
    (λ is. first_stops (IsOne item Fits before) Kind (item_at before) f bytes stop
    (λ t k.
    let others = stops.fill count (before ++ k.0 ∷ []) (omega (arith, length-append before (k.0 ∷ []))) in
    (flat_map item others.0, (k.0 ∷ others.0, ap suc others.1, (k.1, others.2), ap (λ (l : List ℕ). l ++ flat_map item others.0) k.2)))
    (stops.one before bytes stop small is (omega arith)))
    (λ x is h.
    let m = stops.reads.means before bytes x small is in
    let Next = Items item Fits count (before ++ x.0 ∷ []) in
    next_stops Next Kind (item_at before) f (each_at item_at count (before ++ x.0 ∷ [])) (λ t. (x.0, t)) (item x.0) bytes x.1 stop m.0.parts (λ t. stops.reads.again before x.0 t m.1) (λ t. refl)
    (wider Next Kind (item x.0) (λ t k. (x.0 ∷ k.0, ap suc k.1, (m.1, k.2), ap (λ (l : List ℕ). item x.0 ++ l) k.3)))
    (each_stops item Fits item_at bound stops count (before ++ x.0 ∷ []) x.1 stop m.0.rest_fits (omega (arith, length-append before (x.0 ∷ []))) h))

starts_array : {A : Type 0} (item : A → List ℕ) (Fits : List A → A → Type 0) (least most : ℕ) → least ≤ most → Filled Fits least [] → Starting (IsArray item Fits least most) 4
unfolding array_head
starts_array item Fits least most low some = (length some.0, flat_map item some.0, (some.0, omega (arith, some.1), omega (arith, some.1), some.2, refl))

pub array_stops : {A : Type 0} (laws : SealLaws) (item : A → List ℕ) (Fits : List A → A → Type 0) (item_at : List A → List ℕ → Result (A × List ℕ) Stop) (bound : ℕ) → StopsItems item Fits item_at bound
    → (least most : ℕ) (bytes : List ℕ) (stop : Stop) → least ≤ most → most ≤ bound → most < 2 ^ 64 → IsBytes bytes → array_at item_at least most bytes ≡ Err stop → Stopped (IsArray item Fits least most) (array_at item_at least most) bytes stop
array_stops {A} laws item Fits item_at bound stops least most bytes stop low high few small e =
    let Kind = IsArray item Fits least most in
    let f : List ℕ → ℕ × List ℕ → Result (List A × List ℕ) Stop = λ b count. each_at item_at count.0 [] count.1 in
    steps (Stopped Kind (array_at item_at least most) bytes stop) (count_at least most bytes) (f bytes) stop e
    (λ is. first_stops Kind Kind (count_at least most) f bytes stop (same_kind Kind) (count_stops laws Kind least most bytes stop small (starts_array item Fits least most low (stops.fill least [] (omega arith))) is))
    (λ x is h.
    let m = count_means least most bytes x small is in
    let Next = Items item Fits x.0 [] in
    next_stops Next Kind (count_at least most) f (each_at item_at x.0 []) (λ t. (x.0, t)) (array_head x.0) bytes x.1 stop m.0.parts (λ t. count_again least most x.0 t m.1 m.2 (omega (arith, m.2))) (λ t. refl)
    (wider Next Kind (array_head x.0) (λ t k. (k.0, omega (arith, k.1, m.1), omega (arith, k.1, m.2), k.2, ap (λ (n : ℕ). array_head n ++ t) (sym k.1) ∙ ap (λ (l : List ℕ). array_head (length k.0) ++ l) k.3)))
    (each_stops item Fits item_at bound stops x.0 [] x.1 stop m.0.rest_fits (omega (arith, m.2)) h))
