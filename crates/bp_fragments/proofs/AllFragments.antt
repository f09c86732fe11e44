-- All the fragments of a bundle.
use Rattle.std.proofs.Common.{◌≡◌, ℕ, zero, suc, ◌+◌, ◌-◌, ◌*◌, ◌/◌, ◌<◌, ◌≤◌, Bool, true, false, cond, ltb, eqb, List, [], ◌∷◌, ◌++◌, length, map, Option, Some, None, refl, sym, ◌∙◌, ap, arith}
use Rattle.std.proofs.lemmas.Bool.{lt-ltb, le-ltb, ltb-false}
use Rattle.std.proofs.lemmas.List.{map_push}
use Rattle.std.proofs.Math.Nat.{div-add-mod, mul-le-mul_left, mul_comm}
use Rattle.cbor_profile.specs.declared.TheConstants.{BUNDLE_LIMIT}
use Rattle.bp_primary.specs.Flags.{is_fragment}
use Rattle.bp_bundle.specs.Shape.{Contents, payload}
use Rattle.bp_bundle.specs.Spelling.{IsBundle, spelling}
use Rattle.bp_fragments.specs.Cut.{below, cut, cut_fault, fragment_at, must_not_fragment, piece_count}
use Rattle.bp_fragments.specs.CutAnswer.{IsCutFault, IsMakeFault, refused_at_once}
use Rattle.bp_fragments.specs.declared.cut.CutFault.{CutFault}
use Rattle.bp_fragments.specs.declared.cut.CutFault.TheVariants as cuts
use Rattle.bp_fragments.proofs.Cutting.{MayCut, cut_by_length}
use Rattle.bp_fragments.proofs.FragmentSizes.{later_fits}

-- ---- all fragments

pub index_within : (size len index : ℕ) → 0 < size → index < piece_count size len → index * size ≤ len
index_within size len index some within = by_test (eqb len 0) refl within
  where
    by_test : (b : Bool) → eqb len 0 ≡ b → index < cond b 1 ((len - 1) / size + 1) → index * size ≤ len
    by_test true empty less = let zero_index : index ≡ 0 = omega arith in rw zero_index (omega arith)
    by_test false filled less =
        let parts = div-add-mod (len - 1) size in
        let le : index ≤ (len - 1) / size = omega arith in
        let product : size * index ≤ size * ((len - 1) / size) = mul-le-mul_left size le in
        let turn : index * size ≡ size * index = mul_comm index size in
        omega arith

pub some_pieces : (size len : ℕ) → 1 ≤ piece_count size len
some_pieces size len = by_test (eqb len 0)
  where
    by_test : (b : Bool) → 1 ≤ cond b 1 ((len - 1) / size + 1)
    by_test true = omega arith
    by_test false = omega arith

pub make_fault_so : (bundle : Contents) (size index : ℕ) (fault : CutFault) → IsBundle bundle → None ≡ refused_at_once bundle size → index * size ≤ length (payload bundle) → (0 < index → length (spelling (fragment_at bundle size 0)) ≤ BUNDLE_LIMIT)
    → IsMakeFault fault (fragment_at bundle size index) → IsCutFault fault (cut_fault bundle size)
make_fault_so bundle size index cuts.NoMemory is free place first made = tt
make_fault_so bundle size index cuts.IsFragment is free place first made = absurd (let e = made.0 in cc)
make_fault_so bundle size index cuts.MustNotFragment is free place first made = absurd (let e = made.0 in cc)
make_fault_so bundle size index cuts.PieceZero is free place first made = absurd (let e = made.0 in cc)
make_fault_so bundle size index cuts.TooMany is free place first made = absurd (let e = made.0 in cc)
make_fault_so bundle size zero cuts.TooLong is free place first made =
    cut_by_length bundle size (sym free) ∙ ap (λ (b : Bool). cond b (Some cuts.TooLong) None) (lt-ltb _ _ made.1)
make_fault_so bundle size (suc index) cuts.TooLong is free place first made =
    let fits = later_fits bundle size (suc index) is place (first (omega arith)) in
    let long = made.1 in
    absurd (omega arith)

pub no_fault_so : (bundle : Contents) (size : ℕ) → None ≡ refused_at_once bundle size → length (spelling (fragment_at bundle size 0)) ≤ BUNDLE_LIMIT → cut_fault bundle size ≡ None
no_fault_so bundle size free fits = cut_by_length bundle size (sym free) ∙ ap (λ (b : Bool). cond b (Some cuts.TooLong) None) (le-ltb _ _ fits)

pub cut_so : (bundle : Contents) (size count : ℕ) (fragments : List Contents) → count ≡ piece_count size (length (payload bundle)) → fragments ≡ map (fragment_at bundle size) (below count) → fragments ≡ cut bundle size
unfolding cut
cut_so bundle size count fragments counted made = made ∙ ap (λ (n : ℕ). map (fragment_at bundle size) (below n)) counted

pub made_more : (bundle : Contents) (size index : ℕ) (fragments : List Contents) (fragment : Contents) → fragments ≡ map (fragment_at bundle size) (below index) → fragment ≡ fragment_at bundle size index → fragments ++ fragment ∷ [] ≡ map (fragment_at bundle size) (below (index + 1))
made_more bundle size index fragments fragment made is =
    ap (λ (xs : List Contents). xs ++ fragment ∷ []) made ∙ (ap (λ (x : Contents). map (fragment_at bundle size) (below index) ++ x ∷ []) is
    ∙ (sym (map_push (fragment_at bundle size) (below index) index) ∙ ap (λ (n : ℕ). map (fragment_at bundle size) (below n)) (let e : suc index ≡ index + 1 = omega arith in e)))

-- a bundle that is cut
pub cut_free : (bundle : Contents) (size : ℕ) → cut_fault bundle size ≡ None → MayCut bundle size
unfolding cut_fault
cut_free bundle size is =
    let facts = free_by (is_fragment bundle.primary.flags) (must_not_fragment bundle.primary.flags) (eqb size 0) (ltb (256 * size) (length (payload bundle))) cuts.IsFragment cuts.MustNotFragment cuts.PieceZero cuts.TooMany _ is in
    record { whole = facts.0; some = some_of size facts.1; few = ltb-false _ _ facts.2 }
  where
    some_of : (n : ℕ) → eqb n 0 ≡ false → 0 < n
    some_of zero e = absurd (let h : eqb 0 0 ≡ true = refl in cc)
    some_of (suc n) e = omega arith

    free_by : (a b c d : Bool) (x y z w : CutFault) (last : Option CutFault) → cond a (Some x) (cond b (Some y) (cond c (Some z) (cond d (Some w) last))) ≡ None → (a ≡ false) × (c ≡ false) × (d ≡ false)
    free_by true b c d x y z w last is = absurd cc
    free_by false true c d x y z w last is = absurd cc
    free_by false false true d x y z w last is = absurd cc
    free_by false false false true x y z w last is = absurd cc
    free_by false false false false x y z w last is = (refl, refl, refl)
