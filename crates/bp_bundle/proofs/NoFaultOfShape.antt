-- A bundle has no fault of shape.
use Rattle.std.proofs.Common.{◌≡◌, ◌↔◌, ℕ, zero, suc, ◌-◌, ◌<◌, ◌≤◌, min, Bool, true, false, not, cond, ltb, eqb, IsTrue, ◌&&◌, List, [], ◌∷◌, ◌++◌, length, get_or, Option, Some, None, refl, sym, ap, subst, ◌∙◌, arith, append_assoc}
use Rattle.std.specs.List.{All, AllPairs, HoldsAt, list_any, position, prefix_len}
use Rattle.std.proofs.lemmas.Bool.{or_from, and_from, ne_eqb, eq-eqb, eqb-true, le-ltb, ltb-false, ltb-true, lt-ltb}
use Rattle.std.proofs.lemmas.List.{get_or_append_left, length-append}
use Rattle.std.proofs.Math.Seq.{get_or-append_seam}
use Rattle.std.proofs.lemmas.List.Folds.{list_any_none}
use Rattle.std.proofs.lemmas.Option.{slice_get-get_or}
use Rattle.cbor_profile.specs.declared.TheConstants.{BUNDLE_LIMIT}
use Rattle.bp_primary.specs.Spelling.{IsPrimary}
use Rattle.bp_blocks.specs.declared.block.Block.{Block}
use Rattle.bp_blocks.specs.Spelling.{IsBlock}
use Rattle.bp_bundle.specs.Shape.{Contents}
use Rattle.bp_bundle.specs.Spelling.{IsPayload, IsNumbered, is_single, IsBundle, spelling}
use Rattle.bp_bundle.specs.Faults.{exactly, is_misnumbered, has_number, has_single, is_repeated, repeated_from, is_payload, ends_in_payload, shape_fault_of, shape_fault}
use Rattle.bp_bundle.proofs.ShapeRules.{Differ, Once, Keeps, no_fault_keeps}

-- ---- tests

all_false : {X : Type 0} (p : X → Bool) (xs : List X) → ((k : ℕ) (d : X) → k < length xs → p (get_or xs k d) ≡ false) → prefix_len (λ y. not (p y)) xs ≡ length xs
all_false p [] none = refl
all_false p (x ∷ xs) none = rw (none zero x (omega arith)) (omega (arith, all_false p xs (λ k d within. none (suc k) d (omega arith))))

position_is : (n len : ℕ) → n ≡ len → ◌≡◌ {A = Option ℕ} (cond (ltb n len) (Some n) None) None
position_is n len same = rw (le-ltb n len (omega arith)) refl

none_found : {X : Type 0} (p : X → Bool) (xs : List X) → ((k : ℕ) (d : X) → k < length xs → p (get_or xs k d) ≡ false) → position p xs ≡ None
none_found p xs none = position_is (prefix_len (λ y. not (p y)) xs) (length xs) (all_false p xs none)

-- ---- the rules on a block

is_exactly : (a b : Bool) → a ≡ b → exactly a b ≡ true
is_exactly true true is = refl
is_exactly true false is = absurd cc
is_exactly false true is = absurd cc
is_exactly false false is = refl

same_test_by : (kind number : ℕ) → ((kind ≡ 1) ↔ (number ≡ 1)) → (b : Bool) → eqb kind 1 ≡ b → b ≡ eqb number 1
same_test_by kind number both true is = sym (eq-eqb number 1 (both.0 (eqb-true kind 1 is)))
same_test_by kind number both false is = sym (ne_eqb number 1 (λ one. absurd (let same : eqb kind 1 ≡ true = eq-eqb kind 1 (both.1 one) in cc)))

pub well_numbered : (block : Block) → IsNumbered block → is_misnumbered block ≡ false
well_numbered block fits =
    let same = same_test_by block.kind block.number fits.1 (eqb block.kind 1) refl in
    let zero_not : not (eqb block.number 0) ≡ true = ap not (ne_eqb block.number 0 fits.0) in
    ap not (and_from (not (eqb block.number 0)) (exactly (eqb block.kind 1) (eqb block.number 1)) zero_not (is_exactly (eqb block.kind 1) (eqb block.number 1) same))

-- ---- blocks that differ

single_by : (b c : Bool) → (b ≡ true → c ≡ false) → (b && c) ≡ false
single_by true c none = none refl
single_by false c none = refl

not_repeated : (before : List Block) (block : Block) → ((k : ℕ) (d : Block) → k < length before → Differ (get_or before k d) block) → ((k : ℕ) (d : Block) → k < length before → Once (get_or before k d) block) → is_repeated before block ≡ false
not_repeated before block differ once =
    let number : has_number before block.number ≡ false = list_any_none (λ (b : Block). eqb b.number block.number) before (λ k d within. ne_eqb (get_or before k d).number block.number (differ k d within)) in
    let single : has_single before block.kind ≡ false = single_by (is_single block.kind) (list_any (λ (b : Block). eqb b.kind block.kind) before) (λ is.
    list_any_none (λ (b : Block). eqb b.kind block.kind) before (λ k d within. ne_eqb (get_or before k d).kind block.kind (λ same.
    once k d within (subst (λ (n : ℕ). IsTrue (is_single n)) (sym same) is) same)))
    in
    or_from (has_number before block.number) (has_single before block.kind) number single

pairs_at : (R : Block → Block → Type 0) (before : List Block) (block : Block) (more : List Block) → AllPairs R (before ++ block ∷ more) → (k : ℕ) (d : Block) → k < length before → R (get_or before k d) block
pairs_at R before block more all k d within =
    let inside : length before < length (before ++ block ∷ more) = omega (arith, length-append before (block ∷ more)) in
    let here = all k (length before) d within inside in
    rw (get_or_append_left before (block ∷ more) d k within, get_or-append_seam before block more d) at here

pub none_repeated : (before blocks : List Block) → AllPairs Differ (before ++ blocks) → AllPairs Once (before ++ blocks) → repeated_from before blocks ≡ None
none_repeated before [] differ once = refl
none_repeated before (block ∷ more) differ once =
    let here : is_repeated before block ≡ false = not_repeated before block (pairs_at Differ before block more differ) (pairs_at Once before block more once) in
    rw here (none_repeated (before ++ block ∷ []) more (rw append_assoc differ) (rw append_assoc once))

-- ---- the payload block

pub is_payload_true : (block : Block) → IsPayload block → is_payload block ≡ true
is_payload_true block is = and_from (eqb block.kind 1) (eqb block.number 1) (eq-eqb block.kind 1 is.0) (eq-eqb block.number 1 is.1)

ends_so : (blocks : List Block) → 1 ≤ length blocks → HoldsAt IsPayload blocks (length blocks - 1) → ends_in_payload blocks ≡ true
ends_so [] some last = absurd (omega arith)
ends_so (first ∷ more) some last =
    rw (slice_get-get_or (first ∷ more) (length (first ∷ more) - 1) first (omega arith)) (is_payload_true (get_or (first ∷ more) (length (first ∷ more) - 1) first) (last first))

-- ---- all together

pub keeps_no_fault : (size : ℕ) (blocks : List Block) → Keeps size blocks → shape_fault_of size blocks ≡ None
unfolding shape_fault_of
keeps_no_fault size blocks keeps =
    let few : ltb 64 (length blocks) ≡ false = le-ltb 64 (length blocks) keeps.few in
    let numbered : position is_misnumbered blocks ≡ None = none_found is_misnumbered blocks (λ k d within. well_numbered (get_or blocks k d) (keeps.numbered k d within)) in
    let apart : repeated_from [] blocks ≡ None = none_repeated [] blocks keeps.distinct keeps.once in
    let last : ends_in_payload blocks ≡ true = ends_so blocks keeps.some keeps.payload_last in
    let within : ltb BUNDLE_LIMIT size ≡ false = le-ltb BUNDLE_LIMIT size keeps.within in
    rw (few, numbered, apart, last, within) refl

pub keeps_of : (bundle : Contents) → IsBundle bundle → Keeps (length (spelling bundle)) bundle.blocks
keeps_of bundle is = record {
  some = is.some;
  few = is.few;
  numbered = is.numbered;
  distinct = is.distinct;
  once = is.once;
  payload_last = is.payload_last;
  within = is.within;
}

pub bundle_no_fault : (bundle : Contents) → IsBundle bundle → shape_fault bundle ≡ None
unfolding shape_fault
bundle_no_fault bundle is = keeps_no_fault (length (spelling bundle)) bundle.blocks (keeps_of bundle is)

pub bundle_of : (bundle : Contents) → IsPrimary bundle.primary → All IsBlock bundle.blocks → Keeps (length (spelling bundle)) bundle.blocks → IsBundle bundle
bundle_of bundle primary blocks keeps = record {
  primary = primary;
  blocks = blocks;
  some = keeps.some;
  few = keeps.few;
  numbered = keeps.numbered;
  distinct = keeps.distinct;
  once = keeps.once;
  payload_last = keeps.payload_last;
  within = keeps.within;
}

pub no_fault_bundle : (bundle : Contents) → IsPrimary bundle.primary → All IsBlock bundle.blocks → shape_fault bundle ≡ None → IsBundle bundle
unfolding shape_fault
no_fault_bundle bundle primary blocks none = bundle_of bundle primary blocks (no_fault_keeps (length (spelling bundle)) bundle.blocks none)

-- a size that stands still at the last number of 64 bits gives the same fault
same_test : (n : ℕ) (b : Bool) → ltb BUNDLE_LIMIT n ≡ b → ltb BUNDLE_LIMIT (min n 18446744073709551615) ≡ b
same_test n true is = lt-ltb BUNDLE_LIMIT (min n 18446744073709551615) (let more : BUNDLE_LIMIT < n = ltb-true BUNDLE_LIMIT n is in omega arith)
same_test n false is = le-ltb BUNDLE_LIMIT (min n 18446744073709551615) (let less : n ≤ BUNDLE_LIMIT = ltb-false BUNDLE_LIMIT n is in omega arith)

pub fault_at_least : (n : ℕ) (blocks : List Block) → shape_fault_of (min n 18446744073709551615) blocks ≡ shape_fault_of n blocks
unfolding shape_fault_of
fault_at_least n blocks = rw (same_test n (ltb BUNDLE_LIMIT n) refl) refl

pub is_bundle_by : (bundle : Contents) (size : ℕ) → size ≡ min (length (spelling bundle)) 18446744073709551615 → IsPrimary bundle.primary → All IsBlock bundle.blocks → None ≡ shape_fault_of size bundle.blocks
    → IsBundle bundle × (size ≡ length (spelling bundle))
unfolding shape_fault
is_bundle_by bundle size is primary blocks none =
    let fits : IsBundle bundle = no_fault_bundle bundle primary blocks (sym (fault_at_least (length (spelling bundle)) bundle.blocks) ∙ (ap (λ (n : ℕ). shape_fault_of n bundle.blocks) (sym is) ∙ sym none)) in
    (fits, let within = fits.within in omega arith)

pub fault_by : (bundle : Contents) (size : ℕ) → size ≡ min (length (spelling bundle)) 18446744073709551615 → shape_fault bundle ≡ shape_fault_of size bundle.blocks
unfolding shape_fault
fault_by bundle size is = rw is (sym (fault_at_least (length (spelling bundle)) bundle.blocks))
