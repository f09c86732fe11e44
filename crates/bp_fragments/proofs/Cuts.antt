-- A cut, joined again.
use Rattle.std.proofs.Common.{◌≡◌, ◌⊎◌, inl, inr, ℕ, zero, suc, ◌+◌, ◌-◌, ◌*◌, ◌/◌, ◌%◌, ◌<◌, ◌≤◌, Bool, true, false, cond, eqb, eq-eqb, List, [], ◌∷◌, length, map, take, drop, get_or, Option, Some, None, Ok, Err, refl, sym, ◌∙◌, ap, subst, arith, length-drop}
use Rattle.std.specs.Prelude.{Contains, option_map, unwrap_or, is_none, is_some, filter}
use Rattle.std.specs.List.{slice_get, find, position}
use Rattle.std.proofs.Math.Bool.{Bool-set}
use Rattle.std.proofs.Math.Nat.{div-add-mod, mod-lt, mul_comm}
use Rattle.std.proofs.lemmas.Nat.{le-div}
use Rattle.std.proofs.lemmas.Bool.{cases_lt, le-ltb, eqb-true, eqb-false}
use Rattle.std.proofs.lemmas.List.{length-take, length-map}
use Rattle.std.proofs.lemmas.Option.{slice_get_within, slice_get-get_or, slice_get-map, get_or_from_slice_get}
use Rattle.bp_primary.specs.declared.primary.Primary.{Primary}
use Rattle.bp_primary.specs.declared.primary.Piece.{Piece}
use Rattle.bp_primary.specs.Flags.{is_fragment}
use Rattle.bp_blocks.specs.declared.block.Block.{Block}
use Rattle.bp_bundle.specs.Shape.{Contents, body_of, payload}
use Rattle.bp_bundle.specs.Spelling.{IsBundle}
use Rattle.bp_bundle.specs.Edits.{body_at}
use Rattle.bp_fragments.specs.Fragment.{offset_of, total_of, with_payload}
use Rattle.bp_fragments.specs.Cut.{below, cut, fragment_at, fragment_flags, fragment_flags_are, fragment_primary, whole_flags, whole_flags_are, whole_primary, is_kept, piece_count}
use Rattle.bp_fragments.specs.Known.{byte_of, byte_at, whole_length, known}
use Rattle.bp_fragments.specs.Agreement.{frame, is_first, IsPiece, Together, Agree}
use Rattle.bp_fragments.specs.Joined.{whole_payload, within_limit, gap_or, joined}
use Rattle.bp_fragments.specs.declared.fault.FinishFault.TheVariants as ends
use Rattle.bp_fragments.proofs.Lists.{same_list, get_behind, get_map_below, length_map_below, get_take, get_drop, none_is}
use Rattle.bp_fragments.proofs.Members.{contains_first, contains_get, get_contains, find_is, is_found}
use Rattle.bp_fragments.proofs.Bytes.{byte_inside, inside_byte, byte_from, some_byte, length-known, get_known}
use Rattle.bp_fragments.proofs.Same.{SameFields, are_fields}
use Rattle.bp_fragments.proofs.Cutting.{MayCut, kept_last}
use Rattle.bp_fragments.proofs.FragmentSizes.{all_kept, payload_short}
use Rattle.bp_fragments.proofs.AllFragments.{index_within, some_pieces}
use Rattle.bp_fragments.proofs.Finishing.{at_zero, known_some}
use Rattle.bp_fragments.proofs.Orders.{joined_first}

-- ---- payloads of blocks

body_twice : (bs : List Block) (i : ℕ) (a b : List ℕ) → body_at i a (body_at i b bs) ≡ body_at i a bs
body_twice [] i a b = refl
body_twice (x ∷ xs) zero a b = refl
body_twice (x ∷ xs) (suc i) a b = ap (λ (bs : List Block). x ∷ bs) (body_twice xs i a b)

pub length-body : (bs : List Block) (i : ℕ) (a : List ℕ) → length (body_at i a bs) ≡ length bs
length-body [] i a = refl
length-body (x ∷ xs) zero a = refl
length-body (x ∷ xs) (suc i) a = ap (λ (n : ℕ). suc n) (length-body xs i a)

pub with_twice : (bs : List Block) (a b : List ℕ) → with_payload a (with_payload b bs) ≡ with_payload a bs
with_twice bs a b = ap (λ (n : ℕ). body_at (n - 1) a (with_payload b bs)) (length-body bs (length bs - 1) b) ∙ body_twice bs (length bs - 1) a b

body_there : (bs : List Block) (i : ℕ) (a : List ℕ) → i < length bs → body_of (slice_get (body_at i a bs) i) ≡ a
body_there [] i a less = absurd (omega arith)
body_there (x ∷ xs) zero a less = refl
body_there (x ∷ xs) (suc i) a less = body_there xs i a (omega arith)

pub payload_there : (bs : List Block) (a : List ℕ) → 0 < length bs → body_of (slice_get (with_payload a bs) (length (with_payload a bs) - 1)) ≡ a
payload_there bs a some = ap (λ (n : ℕ). body_of (slice_get (with_payload a bs) (n - 1))) (length-body bs (length bs - 1) a) ∙ body_there bs (length bs - 1) a (omega arith)

own_body : (bs : List Block) (i : ℕ) → body_at i (body_of (slice_get bs i)) bs ≡ bs
own_body [] i = refl
own_body (x ∷ xs) zero = refl
own_body (x ∷ xs) (suc i) = ap (λ (bs : List Block). x ∷ bs) (own_body xs i)

-- ---- a fragment

piece_bytes : Contents → ℕ → ℕ → List ℕ
piece_bytes bundle size index = take size (drop (index * size) (payload bundle))

fragment_payload : (bundle : Contents) (size index : ℕ) → IsBundle bundle → payload (fragment_at bundle size index) ≡ piece_bytes bundle size index
unfolding fragment_at piece_bytes
fragment_payload bundle size index is = payload_there (filter (is_kept index) bundle.blocks) (take size (drop (index * size) (payload bundle))) (kept_last bundle index is).some

fragment_offset : (bundle : Contents) (size index : ℕ) → offset_of (fragment_at bundle size index) ≡ index * size
unfolding fragment_at
fragment_offset bundle size index = refl

fragment_total : (bundle : Contents) (size index : ℕ) → total_of (fragment_at bundle size index) ≡ length (payload bundle)
unfolding fragment_at
fragment_total bundle size index = refl

fragment_flag : (bundle : Contents) (size index : ℕ) → is_fragment (fragment_at bundle size index).primary.flags ≡ true
unfolding fragment_at
fragment_flag bundle size index = sym (fragment_flags_are bundle.primary.flags)

fragment_fields : (bundle : Contents) (size i j : ℕ) → SameFields (fragment_at bundle size i).primary (fragment_at bundle size j).primary
unfolding fragment_at
fragment_fields bundle size i j = record { flags = refl; crc = refl; destination = refl; source = refl; report_to = refl; created = refl; sequence = refl; lifetime = refl; total = refl }

first_frame : (bundle : Contents) (size : ℕ) → frame (fragment_at bundle size 0) ≡ with_payload [] bundle.blocks
unfolding fragment_at
first_frame bundle size = with_twice (filter (is_kept 0) bundle.blocks) [] (take size (drop (0 * size) (payload bundle))) ∙ ap (with_payload []) (all_kept bundle.blocks)

-- each byte of a fragment is that of the payload
truth : (bundle : Contents) (size index place byte : ℕ) → IsBundle bundle → byte_of (fragment_at bundle size index) place ≡ Some byte → slice_get (payload bundle) place ≡ Some byte
unfolding piece_bytes
truth bundle size index place byte is of_piece =
    let at = byte_inside (fragment_at bundle size index) place byte of_piece in
    let offset = fragment_offset bundle size index in
    let low : index * size ≤ place = omega (arith, at.0) in
    let here : slice_get (take size (drop (index * size) (payload bundle))) (place - index * size) ≡ Some byte =
    ap (λ (xs : List ℕ). slice_get xs (place - index * size)) (sym (fragment_payload bundle size index is)) ∙ (ap (λ (n : ℕ). slice_get (payload (fragment_at bundle size index)) (place - n)) (sym offset) ∙ at.1) in
    let less = slice_get_within (take size (drop (index * size) (payload bundle))) (place - index * size) byte here in
    let back : index * size + (place - index * size) ≡ place = omega arith in
    ap (slice_get (payload bundle)) (sym back) ∙ (sym (get_drop (payload bundle) (index * size) (place - index * size)) ∙ (sym (get_take (drop (index * size) (payload bundle)) size (place - index * size) (omega (arith, length-take size (drop (index * size) (payload bundle))))) ∙ here))

get_piece : (bundle : Contents) (size index j byte : ℕ) → IsBundle bundle → j < size → slice_get (payload bundle) (index * size + j) ≡ Some byte → slice_get (payload (fragment_at bundle size index)) j ≡ Some byte
unfolding piece_bytes
get_piece bundle size index j byte is less there =
    ap (λ (xs : List ℕ). slice_get xs j) (fragment_payload bundle size index is) ∙ (get_take (drop (index * size) (payload bundle)) size j less ∙ (get_drop (payload bundle) (index * size) j ∙ there))

-- ---- the fragments of a cut

pub record OfCut (bundle : Contents) (size : ℕ) (piece : Contents) (index : ℕ) : Type 0 where
  pub within : index < piece_count size (length (payload bundle))
  pub is : piece ≡ fragment_at bundle size index

pub of_cut : (bundle : Contents) (size : ℕ) (piece : Contents) → Contains (cut bundle size) piece → (index : ℕ) × OfCut bundle size piece index
unfolding cut
of_cut bundle size piece in_cut =
    let count = piece_count size (length (payload bundle)) in
    let at = get_contains (map (fragment_at bundle size) (below count)) piece in_cut in
    let less = slice_get_within (map (fragment_at bundle size) (below count)) at.0 piece at.1 in
    let within : at.0 < count = omega (arith, length_map_below (fragment_at bundle size) count) in
    (at.0, record { within = within; is = one_of (sym at.1 ∙ get_map_below (fragment_at bundle size) count at.0 within) })
  where
    one_of : {x y : Contents} → ◌≡◌ {A = Option Contents} (Some x) (Some y) → x ≡ y
    one_of e = cc

in_cut : (bundle : Contents) (size index : ℕ) → index < piece_count size (length (payload bundle)) → Contains (cut bundle size) (fragment_at bundle size index)
unfolding cut
in_cut bundle size index within = contains_get (map (fragment_at bundle size) (below (piece_count size (length (payload bundle))))) index (fragment_at bundle size index) (get_map_below (fragment_at bundle size) (piece_count size (length (payload bundle))) index within)

zero_index : (size index : ℕ) → 0 < size → index * size ≡ 0 → index ≡ 0
zero_index size zero some is = refl
zero_index size (suc index) some is = absurd (let e : suc index * size ≡ size + index * size = omega arith in omega arith)

is_piece : (bundle : Contents) (size index : ℕ) → IsBundle bundle → MayCut bundle size → index < piece_count size (length (payload bundle)) → IsPiece (fragment_at bundle size index)
unfolding piece_bytes
is_piece bundle size index is may within =
    let place = index_within size (length (payload bundle)) index may.some within in
    let offset = fragment_offset bundle size index in
    let total = fragment_total bundle size index in
    let len = ap (λ (xs : List ℕ). length xs) (fragment_payload bundle size index is) in
    let limit = payload_short bundle is in
    record {
      fragment = fragment_flag bundle size index;
      within = omega (arith, length-take size (drop (index * size) (payload bundle)), length-drop (index * size) (payload bundle));
      limit = omega arith;
    }

together : (bundle : Contents) (size i j : ℕ) → IsBundle bundle → MayCut bundle size → Together (fragment_at bundle size i) (fragment_at bundle size j)
together bundle size i j is may = record {
  primary = are_fields (fragment_at bundle size i).primary (fragment_at bundle size j).primary (fragment_fields bundle size i j);
  frame = λ first second.
      let one : i ≡ 0 = zero_index size i may.some (sym (fragment_offset bundle size i) ∙ first) in
      let other : j ≡ 0 = zero_index size j may.some (sym (fragment_offset bundle size j) ∙ second) in
      ap (λ (n : ℕ). frame (fragment_at bundle size n)) (one ∙ sym other);
  bytes = λ place x y of_i of_j. some_is (sym (truth bundle size i place x is of_i) ∙ truth bundle size j place y is of_j);
}
  where
    some_is : {x y : ℕ} → ◌≡◌ {A = Option ℕ} (Some x) (Some y) → x ≡ y
    some_is e = cc

pub cut_agrees : (bundle : Contents) (size : ℕ) → IsBundle bundle → MayCut bundle size → Agree (cut bundle size)
cut_agrees bundle size is may = record {
  each = λ a in_a. let at = of_cut bundle size a in_a in subst IsPiece (sym at.1.is) (is_piece bundle size at.0 is may at.1.within);
  both = λ a b in_a in_b.
      let at = of_cut bundle size a in_a in
      let to = of_cut bundle size b in_b in
      subst (λ (x : Contents). Together x b) (sym at.1.is) (subst (Together (fragment_at bundle size at.0)) (sym to.1.is) (together bundle size at.0 to.0 is may));
}

pub part_agrees : (all some : List Contents) → Agree all → ((a : Contents) → Contains some a → Contains all a) → Agree some
part_agrees all some agree within = record {
  each = λ a in_some. agree.each a (within a in_some);
  both = λ a b in_a in_b. agree.both a b (within a in_a) (within b in_b);
}

-- ---- joined again

none_left : (fragment : Option Piece) → is_some fragment ≡ false → fragment ≡ None
none_left None is = refl
none_left (Some piece) is = absurd cc

made_back : (primary : Primary) (flags : ℕ) (fragment : Option Piece) (fragmented : is_some fragment ≡ is_fragment flags) → Primary
made_back primary flags fragment fragmented = record {
  flags = flags;
  crc = primary.crc;
  destination = primary.destination;
  source = primary.source;
  report_to = primary.report_to;
  created = primary.created;
  sequence = primary.sequence;
  lifetime = primary.lifetime;
  fragment = fragment;
  fragmented = fragmented;
}

flags_back : (flags : ℕ) → is_fragment flags ≡ false → whole_flags (fragment_flags flags) ≡ flags
flags_back flags even = let odd = eqb-false (flags % 2) 1 even in omega arith

IsMade : Primary → ℕ → Option Piece → Type 0
IsMade primary flags fragment = (fragmented : is_some fragment ≡ is_fragment flags) → made_back primary flags fragment fragmented ≡ primary

is_made : (primary : Primary) → IsMade primary primary.flags primary.fragment
unfolding IsMade made_back
is_made primary fragmented = ap (made_back primary primary.flags primary.fragment) (Bool-set _ _ fragmented primary.fragmented)

pub primary_back : (primary : Primary) (piece : Piece) → is_fragment primary.flags ≡ false → whole_primary (fragment_primary piece primary) ≡ primary
unfolding IsMade made_back
primary_back primary piece even =
    let none : primary.fragment ≡ None = none_left primary.fragment (primary.fragmented ∙ even) in
    let here : IsMade primary primary.flags None = subst (IsMade primary primary.flags) none (is_made primary) in
    let there : IsMade primary (whole_flags (fragment_flags primary.flags)) None = subst (λ (n : ℕ). IsMade primary n None) (sym (flags_back primary.flags even)) here in
    there (whole_flags_are (fragment_flags primary.flags))

-- a selection of a cut
pub record Selection (bundle : Contents) (size : ℕ) (pieces : List Contents) : Type 0 where
  pub some : 0 < length pieces
  pub of : (piece : Contents) → Contains pieces piece → Contains (cut bundle size) piece
  pub covers : position is_none (known pieces) ≡ None

whole_total : (bundle : Contents) (size : ℕ) (pieces : List Contents) → IsBundle bundle → Selection bundle size pieces → whole_length pieces ≡ length (payload bundle)
whole_total bundle size [] is selection = absurd (let some = selection.some in omega arith)
whole_total bundle size (x ∷ xs) is selection =
    let at = of_cut bundle size x (selection.of x (contains_first x xs)) in
    ap total_of at.1.is ∙ fragment_total bundle size at.0

bytes_back : (bundle : Contents) (size : ℕ) (pieces : List Contents) → IsBundle bundle → Selection bundle size pieces → whole_payload (known pieces) ≡ payload bundle
bytes_back bundle size pieces is selection = same_list (whole_payload (known pieces)) (payload bundle) (λ k. by_length k (cases_lt k (whole_length pieces)))
  where
    total : whole_length pieces ≡ length (payload bundle)
    total = whole_total bundle size pieces is selection

    by_length : (k : ℕ) → (k < whole_length pieces) ⊎ (whole_length pieces ≤ k) → slice_get (whole_payload (known pieces)) k ≡ slice_get (payload bundle) k
    by_length k (inl less) =
        let byte = known_some pieces k less selection.covers in
        let from = byte_from pieces k byte.0 byte.1 in
        let at = of_cut bundle size from.0 (selection.of from.0 from.1) in
        slice_get-map (λ o. unwrap_or o 0) (known pieces) k
        ∙ (ap (option_map (λ o. unwrap_or o 0)) (get_known pieces k less ∙ ap (λ (o : Option ℕ). Some o) byte.1)
        ∙ sym (truth bundle size at.0 k byte.0 is (ap (λ (c : Contents). byte_of c k) (sym at.1.is) ∙ from.2)))
    by_length k (inr behind) =
        get_behind (whole_payload (known pieces)) k (omega (arith, length-map (known pieces) (λ o. unwrap_or o 0), length-known pieces))
        ∙ sym (get_behind (payload bundle) k (omega (arith, total)))

frame_back : (bundle : Contents) (size : ℕ) (pieces : List Contents) → IsBundle bundle → MayCut bundle size → Selection bundle size pieces → option_map frame (find is_first pieces) ≡ Some (with_payload [] bundle.blocks)
frame_back bundle size pieces is may selection =
    let agree = part_agrees (cut bundle size) pieces (cut_agrees bundle size is may) selection.of in
    let zero_piece = at_zero pieces selection.some agree selection.covers in
    let found = is_found is_first pieces zero_piece.0 zero_piece.1 (eq-eqb _ _ zero_piece.2) in
    let there = find_is is_first pieces found.0 found.1 in
    let at = of_cut bundle size found.0 (selection.of found.0 there.0) in
    let zero_at : at.0 * size ≡ 0 = sym (fragment_offset bundle size at.0) ∙ (ap offset_of (sym at.1.is) ∙ eqb-true _ _ there.1) in
    let first : at.0 ≡ 0 = zero_index size at.0 may.some zero_at in
    ap (option_map frame) found.1 ∙ ap (λ (bs : List Block). Some bs) (ap frame at.1.is ∙ (ap (λ (n : ℕ). frame (fragment_at bundle size n)) first ∙ first_frame bundle size))

whole_back : (bundle : Contents) (size index : ℕ) → is_fragment bundle.primary.flags ≡ false → whole_primary (fragment_at bundle size index).primary ≡ bundle.primary
unfolding fragment_at
whole_back bundle size index even = primary_back bundle.primary (record { offset = index * size; total = length (payload bundle) }) even

pub joined_again : (bundle : Contents) (size : ℕ) (pieces : List Contents) → IsBundle bundle → MayCut bundle size → Selection bundle size pieces → joined pieces ≡ Ok bundle
joined_again bundle size [] is may selection = absurd (let some = selection.some in omega arith)
joined_again bundle size (x ∷ xs) is may selection =
    let at = of_cut bundle size x (selection.of x (contains_first x xs)) in
    let primary : whole_primary x.primary ≡ bundle.primary = ap (λ (c : Contents). whole_primary c.primary) at.1.is ∙ whole_back bundle size at.0 may.whole in
    let bytes = bytes_back bundle size (x ∷ xs) is selection in
    let blocks : with_payload (whole_payload (known (x ∷ xs))) (unwrap_or (option_map frame (find is_first (x ∷ xs))) []) ≡ bundle.blocks =
    ap (λ (o : Option (List Block)). with_payload (whole_payload (known (x ∷ xs))) (unwrap_or o [])) (frame_back bundle size (x ∷ xs) is may selection)
    ∙ (ap (λ (b : List ℕ). with_payload b (with_payload [] bundle.blocks)) bytes ∙ (with_twice bundle.blocks (payload bundle) [] ∙ own_body bundle.blocks (length bundle.blocks - 1))) in
    joined_first x xs
    ∙ (ap (λ (o : Option ℕ). gap_or o (within_limit (record { primary = whole_primary x.primary; blocks = with_payload (whole_payload (known (x ∷ xs))) (unwrap_or (option_map frame (find is_first (x ∷ xs))) []) }))) selection.covers
    ∙ (ap (λ (p : Primary). within_limit (record { primary = p; blocks = with_payload (whole_payload (known (x ∷ xs))) (unwrap_or (option_map frame (find is_first (x ∷ xs))) []) })) primary
    ∙ (ap (λ (bs : List Block). within_limit (record { primary = bundle.primary; blocks = bs })) blocks
    ∙ ap (λ (b : Bool). cond b (Err ends.TooLong) (Ok bundle)) (le-ltb _ _ is.within))))

-- ---- the whole cut leaves no gap

pub cut_covers : (bundle : Contents) (size : ℕ) → IsBundle bundle → MayCut bundle size → Selection bundle size (cut bundle size)
cut_covers bundle size is may = record {
  some = some_cut (in_cut bundle size 0 (some_pieces size (length (payload bundle))));
  of = λ piece in_all. in_all;
  covers = none_is is_none (known (cut bundle size)) None (λ k less. covered k less);
}
  where
    some_cut : Contains (cut bundle size) (fragment_at bundle size 0) → 0 < length (cut bundle size)
    some_cut there = let less = there.1 in omega arith

    total : (pieces : List Contents) → pieces ≡ cut bundle size → whole_length pieces ≤ length (payload bundle)
    total [] same = omega arith
    total (x ∷ xs) same =
        let at = of_cut bundle size x (subst (λ (cs : List Contents). Contains cs x) same (contains_first x xs)) in
        let t = ap total_of at.1.is ∙ fragment_total bundle size at.0 in
        omega arith

    covered : (k : ℕ) → k < length (known (cut bundle size)) → is_none (get_or (known (cut bundle size)) k None) ≡ false
    covered k less =
        let len = length (payload bundle) in
        let within : k < len = omega (arith, length-known (cut bundle size), total (cut bundle size) refl) in
        let index = k / size in
        let parts = div-add-mod k size in
        let turn = mul_comm index size in
        let rest = mod-lt k may.some in
        let low : index * size ≤ len - 1 = omega arith in
        let le = le-div index (len - 1) size may.some low in
        let count : index < piece_count size len = count_of index len within le in
        let j = k - index * size in
        let byte = get_or (payload bundle) k 0 in
        let there : slice_get (payload bundle) k ≡ Some byte = slice_get-get_or (payload bundle) k 0 within in
        let back : index * size + j ≡ k = omega arith in
        let here : slice_get (payload (fragment_at bundle size index)) j ≡ Some byte = get_piece bundle size index j byte is (omega arith) (ap (slice_get (payload bundle)) back ∙ there) in
        let own : byte_of (fragment_at bundle size index) k ≡ Some byte = ap (byte_of (fragment_at bundle size index)) (sym (ap (λ (n : ℕ). n + j) (fragment_offset bundle size index) ∙ back)) ∙ inside_byte (fragment_at bundle size index) j byte here in
        let some = some_byte (cut bundle size) (fragment_at bundle size index) k byte (in_cut bundle size index count) own in
        ap is_none (get_or_from_slice_get (known (cut bundle size)) k (byte_at (cut bundle size) k) None (get_known (cut bundle size) k (omega (arith, length-known (cut bundle size)))) ∙ some.1)
      where
        count_of : (index len : ℕ) → k < len → index ≤ (len - 1) / size → index < piece_count size len
        count_of index len within le = by_test (eqb len 0) refl
          where
            by_test : (b : Bool) → eqb len 0 ≡ b → index < cond b 1 ((len - 1) / size + 1)
            by_test true empty = absurd (let e = eqb-true len 0 empty in omega arith)
            by_test false filled = omega arith
