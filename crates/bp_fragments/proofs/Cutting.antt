-- A cut leaves bundles.
use Rattle.std.proofs.Common.{◌≡◌, ℕ, zero, suc, ◌-◌, ◌*◌, ◌<◌, ◌≤◌, Bool, true, false, cond, ltb, eqb, ◌||◌, List, [], ◌∷◌, length, take, drop, get_or, Option, Some, None, inl, inr, refl, sym, ◌∙◌, ap, subst, arith}
use Rattle.std.specs.Prelude.{filter}
use Rattle.std.specs.List.{slice_get}
use Rattle.std.proofs.lemmas.Bool.{cases_lt, ltb-false}
use Rattle.std.proofs.lemmas.List.Elements.{All-filter}
use Rattle.std.proofs.lemmas.List.Kept.{AllPairs-filter}
use Rattle.std.proofs.lemmas.Option.{slice_get-get_or, get_or_from_slice_get}
use Rattle.cbor_profile.specs.declared.TheConstants.{BUNDLE_LIMIT}
use Rattle.bp_primary.specs.Flags.{is_fragment}
use Rattle.bp_blocks.specs.declared.block.Block.{Block}
use Rattle.bp_bundle.specs.Shape.{Contents, payload}
use Rattle.bp_bundle.specs.Spelling.{IsBundle, IsPayload, IsNumbered, spelling}
use Rattle.bp_bundle.specs.Faults.{is_payload, shape_fault}
use Rattle.bp_bundle.specs.declared.shape.ShapeFault.{ShapeFault}
use Rattle.bp_bundle.proofs.ShapeRules.{Keeps, Differ, Once}
use Rattle.bp_bundle.proofs.NoFaultOfShape.{keeps_no_fault, is_payload_true}
use Rattle.bp_bundle.proofs.EditsLeaveBundles.{kept, keys_of_body}
use Rattle.bp_fragments.specs.Fragment.{with_payload, is_replicated}
use Rattle.bp_fragments.specs.Cut.{cut_fault, fragment_at, is_kept, must_not_fragment}
use Rattle.bp_fragments.specs.CutAnswer.{IsCutFault, refused_at_once}
use Rattle.bp_fragments.specs.declared.cut.CutFault.{CutFault}
use Rattle.bp_fragments.specs.declared.cut.CutFault.TheVariants as cuts
use Rattle.bp_fragments.proofs.Sizes.{LastKept, last_kept}

-- ---- the shape of a fragment

-- the last block is the payload block
pub payload_last : (bundle : Contents) → IsBundle bundle → (block : Block) → slice_get bundle.blocks (length bundle.blocks - 1) ≡ Some block → is_payload block ≡ true
payload_last bundle is block there =
    let last = is.payload_last block in
    is_payload_true block (subst IsPayload (get_or_from_slice_get bundle.blocks (length bundle.blocks - 1) block block there) last)

pub kept_if : (a b c : Bool) → c ≡ true → (a || (b || c)) ≡ true
kept_if true b c is = refl
kept_if false true c is = refl
kept_if false false c is = is

pub kept_last : (bundle : Contents) (index : ℕ) → IsBundle bundle → LastKept (is_kept index) bundle.blocks
kept_last bundle index is =
    let some = is.some in
    last_kept (is_kept index) bundle.blocks (omega arith) (λ block there. kept_if (eqb index 0) (is_replicated block) (is_payload block) (payload_last bundle is block there))

few_kept : (p : Block → Bool) (bs : List Block) → length (filter p bs) ≤ length bs
few_kept p [] = omega arith
few_kept p (b ∷ bs) = by_test (p b) (few_kept p bs)
  where
    by_test : (t : Bool) → length (filter p bs) ≤ length bs → length (cond t (b ∷ filter p bs) (filter p bs)) ≤ length (b ∷ bs)
    by_test true more = omega arith
    by_test false more = omega arith

kept_keeps : (p : Block → Bool) (bundle : Contents) → IsBundle bundle → LastKept p bundle.blocks → Keeps 0 (filter p bundle.blocks)
kept_keeps p bundle is last =
    let few = is.few in
    let some = is.some in
    record {
      some = let s = last.some in omega arith;
      few = omega (arith, few_kept p bundle.blocks);
      numbered = All-filter p IsNumbered bundle.blocks is.numbered;
      distinct = AllPairs-filter Differ p bundle.blocks is.distinct;
      once = AllPairs-filter Once p bundle.blocks is.once;
      payload_last = λ d. last_of d;
      within = omega arith;
    }
  where
    at_last : (xs : List Block) (d : Block) → 0 < length xs → slice_get xs (length xs - 1) ≡ Some (get_or xs (length xs - 1) d)
    at_last xs d some = slice_get-get_or xs (length xs - 1) d (omega arith)

    last_of : (d : Block) → IsPayload (get_or (filter p bundle.blocks) (length (filter p bundle.blocks) - 1) d)
    last_of d =
        let some = last.some in
        let whole = is.some in
        let a = at_last (filter p bundle.blocks) d (omega arith) in
        let b = at_last bundle.blocks d (omega arith) in
        let same : get_or bundle.blocks (length bundle.blocks - 1) d ≡ get_or (filter p bundle.blocks) (length (filter p bundle.blocks) - 1) d = one_of (sym b ∙ (sym last.same ∙ a)) in
        subst IsPayload same (is.payload_last d)
      where
        one_of : {x y : Block} → ◌≡◌ {A = Option Block} (Some x) (Some y) → x ≡ y
        one_of e = cc

pub fragment_keeps : (bundle : Contents) (size index : ℕ) → IsBundle bundle → Keeps 0 (fragment_at bundle size index).blocks
unfolding fragment_at
fragment_keeps bundle size index is =
    kept (filter (is_kept index) bundle.blocks) (with_payload (take size (drop (index * size) (payload bundle))) (filter (is_kept index) bundle.blocks)) 0 0
    (keys_of_body (length (filter (is_kept index) bundle.blocks) - 1) (take size (drop (index * size) (payload bundle))) (filter (is_kept index) bundle.blocks))
    (kept_keeps (is_kept index) bundle is (kept_last bundle index is)) (omega arith)

keeps_at : (n : ℕ) (blocks : List Block) → Keeps 0 blocks → n ≤ BUNDLE_LIMIT → Keeps n blocks
keeps_at n blocks keeps within = record {
  some = keeps.some;
  few = keeps.few;
  numbered = keeps.numbered;
  distinct = keeps.distinct;
  once = keeps.once;
  payload_last = keeps.payload_last;
  within = within;
}

-- a bundle that keeps the rules on blocks has no fault but that of length
pub too_long : (bundle : Contents) (fault : ShapeFault) → Keeps 0 bundle.blocks → shape_fault bundle ≡ Some fault → BUNDLE_LIMIT < length (spelling bundle)
unfolding shape_fault
too_long bundle fault keeps is =
    elim (cases_lt BUNDLE_LIMIT (length (spelling bundle))) [
      | inl long ↦ long
      | inr short ↦ absurd (let none = keeps_no_fault (length (spelling bundle)) bundle.blocks (keeps_at (length (spelling bundle)) bundle.blocks keeps short) in cc)
    ]

-- a fragment that is no bundle is too long
pub long_so : (bundle : Contents) (size index : ℕ) (made : Contents) (fault : ShapeFault) → IsBundle bundle → made ≡ fragment_at bundle size index → shape_fault made ≡ Some fault → BUNDLE_LIMIT < length (spelling (fragment_at bundle size index))
long_so bundle size index made fault is same faulty = too_long (fragment_at bundle size index) fault (fragment_keeps bundle size index is) (ap shape_fault (sym same) ∙ faulty)

-- ---- the faults

later : (a b c d : Bool) (x y z w fault : CutFault) (last : Option CutFault) → cond a (Some x) (cond b (Some y) (cond c (Some z) (cond d (Some w) None))) ≡ Some fault → cond a (Some x) (cond b (Some y) (cond c (Some z) (cond d (Some w) last))) ≡ Some fault
later true b c d x y z w fault last is = is
later false true c d x y z w fault last is = is
later false false true d x y z w fault last is = is
later false false false true x y z w fault last is = is
later false false false false x y z w fault last is = absurd cc

none_so_far : (a b c d : Bool) (x y z w : CutFault) (last : Option CutFault) → cond a (Some x) (cond b (Some y) (cond c (Some z) (cond d (Some w) None))) ≡ None → cond a (Some x) (cond b (Some y) (cond c (Some z) (cond d (Some w) last))) ≡ last
none_so_far true b c d x y z w last is = absurd cc
none_so_far false true c d x y z w last is = absurd cc
none_so_far false false true d x y z w last is = absurd cc
none_so_far false false false true x y z w last is = absurd cc
none_so_far false false false false x y z w last is = refl

refused_is : (bundle : Contents) (size : ℕ) (fault : CutFault) → Some fault ≡ refused_at_once bundle size → cut_fault bundle size ≡ Some fault
unfolding refused_at_once cut_fault
refused_is bundle size fault is = later (is_fragment bundle.primary.flags) (must_not_fragment bundle.primary.flags) (eqb size 0) (ltb (256 * size) (length (payload bundle))) cuts.IsFragment cuts.MustNotFragment cuts.PieceZero cuts.TooMany fault _ (sym is)

pub refused_so : (bundle : Contents) (size : ℕ) (fault : CutFault) → Some fault ≡ refused_at_once bundle size → IsCutFault fault (cut_fault bundle size)
refused_so bundle size cuts.NoMemory is = tt
refused_so bundle size cuts.IsFragment is = refused_is bundle size cuts.IsFragment is
refused_so bundle size cuts.MustNotFragment is = refused_is bundle size cuts.MustNotFragment is
refused_so bundle size cuts.PieceZero is = refused_is bundle size cuts.PieceZero is
refused_so bundle size cuts.TooMany is = refused_is bundle size cuts.TooMany is
refused_so bundle size cuts.TooLong is = refused_is bundle size cuts.TooLong is

-- nothing stands against cutting but the first fragment's length
pub cut_by_length : (bundle : Contents) (size : ℕ) → refused_at_once bundle size ≡ None → cut_fault bundle size ≡ cond (ltb BUNDLE_LIMIT (length (spelling (fragment_at bundle size 0)))) (Some cuts.TooLong) None
unfolding refused_at_once cut_fault
cut_by_length bundle size is = none_so_far (is_fragment bundle.primary.flags) (must_not_fragment bundle.primary.flags) (eqb size 0) (ltb (256 * size) (length (payload bundle))) cuts.IsFragment cuts.MustNotFragment cuts.PieceZero cuts.TooMany _ is

pub record MayCut (bundle : Contents) (size : ℕ) : Type 0 where
  pub whole : is_fragment bundle.primary.flags ≡ false
  pub some : 0 < size
  pub few : length (payload bundle) ≤ 256 * size

may_by : (a b c d : Bool) (x y z w : CutFault) → cond a (Some x) (cond b (Some y) (cond c (Some z) (cond d (Some w) None))) ≡ None → (a ≡ false) × (c ≡ false) × (d ≡ false)
may_by true b c d x y z w is = absurd cc
may_by false true c d x y z w is = absurd cc
may_by false false true d x y z w is = absurd cc
may_by false false false true x y z w is = absurd cc
may_by false false false false x y z w is = (refl, refl, refl)

pub may_cut : (bundle : Contents) (size : ℕ) → None ≡ refused_at_once bundle size → MayCut bundle size
unfolding refused_at_once
may_cut bundle size is =
    let facts = may_by (is_fragment bundle.primary.flags) (must_not_fragment bundle.primary.flags) (eqb size 0) (ltb (256 * size) (length (payload bundle))) cuts.IsFragment cuts.MustNotFragment cuts.PieceZero cuts.TooMany (sym is) in
    record { whole = facts.0; some = some_of size facts.1; few = ltb-false _ _ facts.2 }
  where
    some_of : (n : ℕ) → eqb n 0 ≡ false → 0 < n
    some_of zero e = absurd (let h : eqb 0 0 ≡ true = refl in cc)
    some_of (suc n) e = omega arith
