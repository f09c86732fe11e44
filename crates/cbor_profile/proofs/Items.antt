-- Reading items one after the other.
use Rattle.std.proofs.Common.{◌≡◌, ℕ, zero, suc, ◌+◌, ◌*◌, ◌-◌, ◌<◌, ◌≤◌, List, Result, Ok, Err, refl, sym, ◌∙◌, arith}
use Rattle.cbor_profile.specs.declared.item.ItemFault.{ItemFault}
use Rattle.cbor_profile.specs.Item.{Items, item_from, each_from, content_from}
use Rattle.cbor_profile.specs.Step.{◌>>=◌}

pub nested : (levels each argument : ℕ) (bytes : List ℕ) → 0 < levels → content_from levels (Items each) argument bytes ≡ each_from (item_from (levels - 1)) (each * argument) bytes
unfolding content_from
nested zero each argument bytes lt = absurd (omega arith)
nested (suc levels) each argument bytes lt = let e : suc levels - 1 ≡ levels = omega arith in rw e refl

pub bind_assoc : {A B C : Type 0} (r : Result A ItemFault) (f : A → Result B ItemFault) (g : B → Result C ItemFault) → ((r >>= f) >>= g) ≡ (r >>= λ x. f x >>= g)
bind_assoc (Ok x) f g = refl
bind_assoc (Err e) f g = refl

bind_same : {A B : Type 0} (r : Result A ItemFault) (f g : A → Result B ItemFault) → ((x : A) → f x ≡ g x) → (r >>= f) ≡ (r >>= g)
bind_same (Ok x) f g same = same x
bind_same (Err e) f g same = refl

pub each-suc : (one : List ℕ → Result (List ℕ) ItemFault) (n : ℕ) (bytes : List ℕ) → each_from one (suc n) bytes ≡ (one bytes >>= each_from one n)
unfolding each_from
each-suc one n bytes = refl

pub each-add : (one : List ℕ → Result (List ℕ) ItemFault) (m n : ℕ) (bytes : List ℕ) → each_from one (m + n) bytes ≡ (each_from one m bytes >>= each_from one n)
unfolding each_from
each-add one zero n bytes = let e : 0 + n ≡ n = omega arith in rw e refl
each-add one (suc m) n bytes =
    let e : suc m + n ≡ suc (m + n) = omega arith in
    rw e (bind_same (one bytes) (each_from one (m + n)) (λ rest. each_from one m rest >>= each_from one n) (λ rest. each-add one m n rest)
    ∙ sym (bind_assoc (one bytes) (each_from one m) (each_from one n)))

-- an array's items, and a map's
pub array_items : (levels argument : ℕ) (bytes : List ℕ) → 0 < levels → content_from levels (Items 1) argument bytes ≡ each_from (item_from (levels - 1)) argument bytes
array_items levels argument bytes lt = let e : 1 * argument ≡ argument = omega arith in nested levels 1 argument bytes lt ∙ rw e refl

pub map_items : (levels argument : ℕ) (bytes : List ℕ) → 0 < levels
    → content_from levels (Items 2) argument bytes ≡ (each_from (item_from (levels - 1)) argument bytes >>= each_from (item_from (levels - 1)) argument)
map_items levels argument bytes lt = let e : 2 * argument ≡ argument + argument = omega arith in nested levels 2 argument bytes lt ∙ (rw e refl ∙ each-add (item_from (levels - 1)) argument argument bytes)

-- ---- a loop over items

pub goes_on : (one : List ℕ → Result (List ℕ) ItemFault) (count i : ℕ) (rest after : List ℕ) (total : Result (List ℕ) ItemFault) → i < count → one rest ≡ Ok after
    → each_from one (count - i) rest ≡ total → each_from one (count - (i + 1)) after ≡ total
goes_on one count i rest after total lt read so_far =
    let k : count - i ≡ suc (count - (i + 1)) = omega arith in
    let step : each_from one (count - i) rest ≡ each_from one (count - (i + 1)) after = rw k (each-suc one (count - (i + 1)) rest ∙ rw read refl) in
    sym step ∙ so_far

pub stops : (one : List ℕ → Result (List ℕ) ItemFault) (count i : ℕ) (rest : List ℕ) (fault : ItemFault) (total : Result (List ℕ) ItemFault) → i < count → one rest ≡ Err fault
    → each_from one (count - i) rest ≡ total → total ≡ Err fault
stops one count i rest fault total lt read so_far =
    let k : count - i ≡ suc (count - (i + 1)) = omega arith in
    let step : each_from one (count - i) rest ≡ Err fault = rw k (each-suc one (count - (i + 1)) rest ∙ rw read refl) in
    sym so_far ∙ step

pub ends : (one : List ℕ → Result (List ℕ) ItemFault) (count i : ℕ) (rest : List ℕ) (total : Result (List ℕ) ItemFault) → count ≤ i → each_from one (count - i) rest ≡ total → total ≡ Ok rest
unfolding each_from
ends one count i rest total le so_far =
    let k : count - i ≡ 0 = omega arith in
    let step : each_from one (count - i) rest ≡ Ok rest = rw k refl in
    sym so_far ∙ step
