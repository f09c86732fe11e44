-- Objects that are made entry by entry.
use Rattle.std.proofs.Common.{◌≡◌, ℕ, ◌≤◌, Bool, true, false, not, ◌||◌, ◌&&◌, cond, List, [], ◌∷◌, ◌++◌, Option, Some, None, Ordering, Less, Equal, Greater, nat_cmp, refl, sym, ◌∙◌, ap, arith}
use Rattle.std.specs.Prelude.{nat_le}
use Rattle.std.specs.Ordering.{match_ordering, is_eq}
use Rattle.std.proofs.lemmas.Map.Text.{is_eq-slice_cmp}
use Rattle.std.specs.Cmp.Lexicographic.{slice_cmp}
use Rattle.std.specs.List.{list_all}
use Rattle.std.specs.Str.{bytes_eq}
use Rattle.std.proofs.lemmas.Bool.{leb-true}
use Rattle.std.proofs.lemmas.Slice.Eq.{bytes_eq-Decides}
use Rattle.serde_json.specs.Data.{Data, Members, no_members, member, put, depth, items_depth, members_depth}
use Rattle.serde_json.specs.Find.{get_member}
use Rattle.serde_json.specs.View.{items_of}
use Rattle.serde_json.specs.Written.{has_float, items_have_float, members_have_float}
use Rattle.serde_json.proofs.Views.{get_member-put, get_member-put_other}
use Rattle.bp_text.specs.Tree.{list_of}
use Rattle.bp_text.specs.Shape.{is_listed, all_listed}
use Rattle.bpsec_policy.specs.Written.{Entry, with, entered}
use Rattle.bpsec_policy.proofs.Steps.{both_true, and_true}

-- ---- what is found at a key

abbrev pub pick : Option Data → Option Data → Option Data
pick None rest = rest
pick (Some d) rest = Some d

-- the value of the last entry with this key that has one
abbrev pub found : List ℕ → List Entry → Option Data → Option Data
found q [] rest = rest
found q (e ∷ es) rest = found q es (cond (bytes_eq q e.0) (pick e.1 rest) rest)

both_ways : (b : Bool) (x : Option Data) → x ≡ cond b x x
both_ways true x = refl
both_ways false x = refl

put_found : (q k : List ℕ) (d : Data) (ms : Members) (b : Bool) → bytes_eq q k ≡ b → get_member q (put k d ms) ≡ cond b (Some d) (get_member q ms)
put_found q k d ms true e = let same : q ≡ k = (bytes_eq-Decides q k).0 e in ap (λ (x : List ℕ). get_member x (put k d ms)) same ∙ get_member-put k d ms
put_found q k d ms false e = get_member-put_other q k d ms (λ same. absurd (let yes : bytes_eq q k ≡ true = (bytes_eq-Decides q k).1 same in cc))

with_found : (q k : List ℕ) (o : Option Data) (ms : Members) → get_member q (with k o ms) ≡ cond (bytes_eq q k) (pick o (get_member q ms)) (get_member q ms)
with_found q k None ms = both_ways (bytes_eq q k) (get_member q ms)
with_found q k (Some d) ms = put_found q k d ms (bytes_eq q k) refl

pub get-entered : (q : List ℕ) (es : List Entry) (ms : Members) → get_member q (entered ms es) ≡ found q es (get_member q ms)
get-entered q [] ms = refl
get-entered q (e ∷ es) ms = get-entered q es (with e.0 e.1 ms) ∙ ap (found q es) (with_found q e.0 e.1 ms)

pub entered-append : (ms : Members) (es fs : List Entry) → entered ms (es ++ fs) ≡ entered (entered ms es) fs
entered-append ms [] fs = refl
entered-append ms (e ∷ es) fs = entered-append (with e.0 e.1 ms) es fs

pub pick-none : (o : Option Data) → pick o None ≡ o
pick-none None = refl
pick-none (Some d) = refl

-- ---- what holds of every member

abbrev pub every : (List ℕ → Data → Bool) → Members → Bool
every test no_members = true
every test (member k d ms) = test k d && every test ms

-- what holds of every entry that has a value
abbrev pub passes_if : (List ℕ → Data → Bool) → List ℕ → Option Data → Bool
passes_if test k None = true
passes_if test k (Some d) = test k d

abbrev pub all_pass : (List ℕ → Data → Bool) → List Entry → Bool
all_pass test [] = true
all_pass test (e ∷ es) = passes_if test e.0 e.1 && all_pass test es

-- keys that tie are the same
tie : (k l : List ℕ) → slice_cmp nat_cmp k l ≡ Equal → k ≡ l
tie k l e = (bytes_eq-Decides k l).0 (sym (is_eq-slice_cmp k l) ∙ ap is_eq e)

every-put : (test : List ℕ → Data → Bool) (k : List ℕ) (d : Data) (ms : Members) → test k d ≡ true → every test ms ≡ true → every test (put k d ms) ≡ true
every-put test k d no_members h all = and_true (test k d) true h refl
every-put test k d (member l e ms) h all = go (slice_cmp nat_cmp k l) refl (both_true (test l e) (every test ms) all).0 (both_true (test l e) (every test ms) all).1 (every-put test k d ms h)
  where
    go : (o : Ordering) → slice_cmp nat_cmp k l ≡ o → test l e ≡ true → every test ms ≡ true → (every test ms ≡ true → every test (put k d ms) ≡ true)
        → every test (match_ordering o (member k d (member l e ms)) (member l d ms) (member l e (put k d ms))) ≡ true
    go Less is this rest later = and_true _ _ h (and_true _ _ this rest)
    go Equal is this rest later = let same : k ≡ l = tie k l is in and_true _ _ (ap (λ (x : List ℕ). test x d) (sym same) ∙ h) rest
    go Greater is this rest later = and_true _ _ this (later rest)

pub every-entered : (test : List ℕ → Data → Bool) (es : List Entry) (ms : Members) → every test ms ≡ true → all_pass test es ≡ true → every test (entered ms es) ≡ true
every-entered test [] ms all h = all
every-entered test (e ∷ es) ms all h =
    let parts = both_true (passes_if test e.0 e.1) (all_pass test es) h in
    every-entered test es (with e.0 e.1 ms) (go e.1 parts.0) parts.1
  where
    go : (o : Option Data) → passes_if test e.0 o ≡ true → every test (with e.0 o ms) ≡ true
    go None p = all
    go (Some d) p = every-put test e.0 d ms p all

pub all_listed-every : (keys : List (List ℕ)) (ms : Members) → every (λ k d. is_listed keys k) ms ≡ true → all_listed keys ms ≡ true
all_listed-every keys no_members h = refl
all_listed-every keys (member k d ms) h = let p = both_true _ _ h in and_true _ _ p.0 (all_listed-every keys ms p.1)

not_float : (b : Bool) → not b ≡ true → b ≡ false
not_float true e = absurd cc
not_float false e = refl

neither : (a b : Bool) → a ≡ false → b ≡ false → (a || b) ≡ false
neither a b h k = rw (h, k) refl

pub float-every : (ms : Members) → every (λ k d. not (has_float d)) ms ≡ true → members_have_float ms ≡ false
float-every no_members h = refl
float-every (member k d ms) h = let p = both_true _ _ h in neither (has_float d) (members_have_float ms) (not_float _ p.0) (float-every ms p.1)

pub float-all : (ds : List Data) → list_all (λ d. not (has_float d)) ds ≡ true → items_have_float (items_of ds) ≡ false
float-all [] h = refl
float-all (d ∷ ds) h = let p = both_true _ _ h in neither (has_float d) (items_have_float (items_of ds)) (not_float _ p.0) (float-all ds p.1)

pub depth-every : (n : ℕ) (ms : Members) → every (λ k d. nat_le (depth d) n) ms ≡ true → members_depth ms ≤ n
depth-every n no_members h = omega arith
depth-every n (member k d ms) h =
    let p = both_true _ _ h in
    let here : depth d ≤ n = leb-true (depth d) n p.0 in
    let rest : members_depth ms ≤ n = depth-every n ms p.1 in
    omega arith

pub depth-all : (n : ℕ) (ds : List Data) → list_all (λ d. nat_le (depth d) n) ds ≡ true → items_depth (items_of ds) ≤ n
depth-all n [] h = omega arith
depth-all n (d ∷ ds) h =
    let p = both_true _ _ h in
    let here : depth d ≤ n = leb-true (depth d) n p.0 in
    let rest : items_depth (items_of ds) ≤ n = depth-all n ds p.1 in
    omega arith

pub list_of-items_of : (ds : List Data) → list_of (items_of ds) ≡ ds
list_of-items_of [] = refl
list_of-items_of (d ∷ ds) = ap (λ (xs : List Data). d ∷ xs) (list_of-items_of ds)
