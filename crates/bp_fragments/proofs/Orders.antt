-- What fragments tell in any order.
use Rattle.std.proofs.Common.{◌≡◌, ℕ, ◌+◌, ◌<◌, Bool, true, false, not, cond, ltb, leb, eqb, ◌&&◌, List, [], ◌∷◌, length, map, get_or, Option, Some, None, Result, Ok, refl, sym, ◌∙◌, ap, arith}
use Rattle.std.specs.Prelude.{Contains, option_map, unwrap_or, is_none}
use Rattle.std.specs.List.{slice_get, find, position}
use Rattle.std.specs.Option.{option_flatten}
use Rattle.std.proofs.lemmas.Bool.{le-ltb, leb-true, eqb-true, false_from_ne_true}
use Rattle.std.proofs.lemmas.Option.{slice_get_within, slice_get-get_or}
use Rattle.cbor_profile.specs.declared.TheConstants.{BUNDLE_LIMIT}
use Rattle.bp_crc.specs.declared.kind.CheckKind.{CheckKind}
use Rattle.bp_eid.specs.declared.eid.Eid.{Eid}
use Rattle.bp_primary.specs.declared.primary.Primary.{Primary}
use Rattle.bp_primary.specs.Flags.{is_fragment}
use Rattle.bp_blocks.specs.declared.block.Block.{Block}
use Rattle.bp_bundle.specs.Shape.{Contents, payload}
use Rattle.bp_fragments.specs.Fragment.{offset_of, total_of, with_payload}
use Rattle.bp_fragments.specs.Cut.{below, whole_primary, whole_flags, whole_flags_are}
use Rattle.bp_fragments.specs.Known.{byte_at, known}
use Rattle.bp_fragments.specs.Agreement.{frame, is_first, gathered, is_other_bundle, is_other_frame, clash_from, or_next, refusal_of, refusal, Together, Agree}
use Rattle.bp_fragments.specs.Joined.{whole_payload, within_limit, gap_or, joined_of, joined}
use Rattle.bp_fragments.specs.declared.fault.AddFault.{AddFault}
use Rattle.bp_fragments.specs.declared.fault.FinishFault.{FinishFault}
use Rattle.bp_fragments.proofs.Lists.{map_below_same}
use Rattle.bp_fragments.proofs.Members.{contains_first, contains_none, find_is, is_found}
use Rattle.bp_fragments.proofs.Bytes.{byte_from, some_byte, inside_byte, length-known, get_known}
use Rattle.bp_fragments.proofs.Clashes.{clash_none}
use Rattle.bp_fragments.proofs.Same.{SameFields, fields_are, are_blocks}

-- ---- those that agree are taken

first_agrees : (kept : List Contents) (piece : Contents) → ((a : Contents) → Contains kept a → Together a piece) → is_other_bundle (option_map (λ p. p.primary) (slice_get kept 0)) piece.primary ≡ false
first_agrees [] piece go = refl
first_agrees (first ∷ more) piece go = ap not (go first (contains_first first more)).primary

frame_agrees : (kept : List Contents) (piece : Contents) → ((a : Contents) → Contains kept a → Together a piece) → (eqb (offset_of piece) 0 && is_other_frame (option_map frame (find is_first kept)) (frame piece)) ≡ false
frame_agrees kept piece go = by_offset (eqb (offset_of piece) 0) refl
  where
    by_found : (o : Option Contents) → find is_first kept ≡ o → offset_of piece ≡ 0 → is_other_frame (option_map frame o) (frame piece) ≡ false
    by_found None is zero_offset = refl
    by_found (Some f) is zero_offset =
        let there = find_is is_first kept f is in
        ap not (are_blocks (frame f) (frame piece) ((go f there.0).frame (eqb-true _ _ there.1) zero_offset))

    by_offset : (b : Bool) → eqb (offset_of piece) 0 ≡ b → (b && is_other_frame (option_map frame (find is_first kept)) (frame piece)) ≡ false
    by_offset false is = refl
    by_offset true is = by_found (find is_first kept) refl (eqb-true _ _ is)

flat : (o : Option (Option ℕ)) (byte : ℕ) → option_flatten o ≡ Some byte → o ≡ Some (Some byte)
flat None byte is = absurd cc
flat (Some o) byte is = ap (λ (x : Option ℕ). Some x) is

bytes_agree : (kept : List Contents) (piece : Contents) → ((a : Contents) → Contains kept a → Together a piece) → clash_from (known kept) (offset_of piece) (payload piece) ≡ None
bytes_agree kept piece go =
    clash_none (known kept) (offset_of piece) (payload piece) (λ j byte less is.
    let place : ℕ = offset_of piece + j in
    let there = flat (slice_get (known kept) place) byte is in
    let within = slice_get_within (known kept) place (Some byte) there in
    let at : byte_at kept place ≡ Some byte = one_of (sym (get_known kept place (omega (arith, within, length-known kept))) ∙ there) in
    let from = byte_from kept place byte at in
    (go from.0 from.1).bytes place byte (get_or (payload piece) j 0) from.2 (inside_byte piece j (get_or (payload piece) j 0) (slice_get-get_or (payload piece) j 0 less)))
  where
    one_of : {x y : Option ℕ} → ◌≡◌ {A = Option (Option ℕ)} (Some x) (Some y) → x ≡ y
    one_of e = cc

chain_free : (a b c d e f : Bool) (clash : Option AddFault) (v w x y z u : AddFault) → a ≡ false → b ≡ false → c ≡ false → d ≡ false → e ≡ false → clash ≡ None → f ≡ false
    → cond a (Some v) (cond b (Some w) (cond c (Some x) (cond d (Some y) (cond e (Some z) (or_next clash (cond f (Some u) None)))))) ≡ None
chain_free a b c d e f clash v w x y z u p q r s t free k = rw (p, q, r, s, t, free, k) refl

not_less : (n : ℕ) → n < 256 → leb 256 n ≡ false
not_less n less = false_from_ne_true (leb 256 n) (λ is. let le = leb-true 256 n is in omega arith)

pub agreeing_taken : (all kept : List Contents) (piece : Contents) → Agree all → Contains all piece → ((a : Contents) → Contains kept a → Contains all a) → length kept < 256 → refusal kept piece ≡ None
unfolding refusal_of gathered
agreeing_taken all kept piece agree there within few =
    let go : (a : Contents) → Contains kept a → Together a piece = λ a in_kept. agree.both a piece (within a in_kept) there in
    let is = agree.each piece there in
    chain_free (not (is_fragment piece.primary.flags)) (is_other_bundle (option_map (λ p. p.primary) (slice_get kept 0)) piece.primary) (ltb (total_of piece) (offset_of piece + length (payload piece))) (ltb BUNDLE_LIMIT (total_of piece))
    (eqb (offset_of piece) 0 && is_other_frame (option_map frame (find is_first kept)) (frame piece)) (leb 256 (length kept)) (clash_from (known kept) (offset_of piece) (payload piece)) _ _ _ _ _ _
    (ap not is.fragment) (first_agrees kept piece go) (le-ltb _ _ is.within) (le-ltb _ _ is.limit) (frame_agrees kept piece go) (bytes_agree kept piece go) (not_less (length kept) few)

-- ---- the order tells nothing

-- the same fragments stand in both
pub record SameSet (xs ys : List Contents) : Type 0 where
  pub to : (a : Contents) → Contains xs a → Contains ys a
  pub back : (a : Contents) → Contains ys a → Contains xs a

made_primary : ℕ → CheckKind → Eid → Eid → Eid → ℕ → ℕ → ℕ → Primary
made_primary flags crc destination source report_to created sequence lifetime = record {
  flags = whole_flags flags;
  crc = crc;
  destination = destination;
  source = source;
  report_to = report_to;
  created = created;
  sequence = sequence;
  lifetime = lifetime;
  fragment = None;
  fragmented = whole_flags_are flags;
}

pub whole_same : (a b : Primary) → SameFields a b → whole_primary a ≡ whole_primary b
unfolding made_primary
whole_same a b same =
    ap (λ (x : ℕ). made_primary x a.crc a.destination a.source a.report_to a.created a.sequence a.lifetime) same.flags
    ∙ (ap (λ (x : CheckKind). made_primary b.flags x a.destination a.source a.report_to a.created a.sequence a.lifetime) same.crc
    ∙ (ap (λ (x : Eid). made_primary b.flags b.crc x a.source a.report_to a.created a.sequence a.lifetime) same.destination
    ∙ (ap (λ (x : Eid). made_primary b.flags b.crc b.destination x a.report_to a.created a.sequence a.lifetime) same.source
    ∙ (ap (λ (x : Eid). made_primary b.flags b.crc b.destination b.source x a.created a.sequence a.lifetime) same.report_to
    ∙ (ap (λ (x : ℕ). made_primary b.flags b.crc b.destination b.source b.report_to x a.sequence a.lifetime) same.created
    ∙ (ap (λ (x : ℕ). made_primary b.flags b.crc b.destination b.source b.report_to b.created x a.lifetime) same.sequence
    ∙ ap (λ (x : ℕ). made_primary b.flags b.crc b.destination b.source b.report_to b.created b.sequence x) same.lifetime))))))

-- the same byte is at each place
byte_same : (xs ys : List Contents) (place : ℕ) → Agree xs → SameSet xs ys → byte_at xs place ≡ byte_at ys place
byte_same xs ys place agree set = by_byte (byte_at xs place) (byte_at ys place) refl refl
  where
    some_none : {x : ℕ} → ◌≡◌ {A = Option ℕ} (Some x) None → ⊥
    some_none e = cc

    by_byte : (o p : Option ℕ) → byte_at xs place ≡ o → byte_at ys place ≡ p → o ≡ p
    by_byte None None here there = refl
    by_byte None (Some y) here there =
        let from = byte_from ys place y there in
        let some = some_byte xs from.0 place y (set.back from.0 from.1) from.2 in
        absurd (some_none (sym some.1 ∙ here))
    by_byte (Some x) None here there =
        let from = byte_from xs place x here in
        let some = some_byte ys from.0 place x (set.to from.0 from.1) from.2 in
        absurd (some_none (sym some.1 ∙ there))
    by_byte (Some x) (Some y) here there =
        let a = byte_from xs place x here in
        let b = byte_from ys place y there in
        ap (λ (n : ℕ). Some n) ((agree.both a.0 b.0 a.1 (set.back b.0 b.1)).bytes place x y a.2 b.2)

frame_same : (xs ys : List Contents) → Agree xs → SameSet xs ys → option_map frame (find is_first xs) ≡ option_map frame (find is_first ys)
frame_same xs ys agree set = by_found (find is_first xs) (find is_first ys) refl refl
  where
    some_none : {x : Contents} → ◌≡◌ {A = Option Contents} (Some x) None → ⊥
    some_none e = cc

    by_found : (o p : Option Contents) → find is_first xs ≡ o → find is_first ys ≡ p → option_map frame o ≡ option_map frame p
    by_found None None here there = refl
    by_found None (Some g) here there =
        let is = find_is is_first ys g there in
        let some = is_found is_first xs g (set.back g is.0) is.1 in
        absurd (some_none (sym some.1 ∙ here))
    by_found (Some f) None here there =
        let is = find_is is_first xs f here in
        let some = is_found is_first ys f (set.to f is.0) is.1 in
        absurd (some_none (sym some.1 ∙ there))
    by_found (Some f) (Some g) here there =
        let a = find_is is_first xs f here in
        let b = find_is is_first ys g there in
        ap (λ (blocks : List Block). Some blocks) ((agree.both f g a.0 (set.back g b.0)).frame (eqb-true _ _ a.1) (eqb-true _ _ b.1))

-- what is joined of a primary block, blocks and bytes
join : Primary → Option (List Block) → List (Option ℕ) → Result Contents FinishFault
join primary blocks bytes = gap_or (position is_none bytes) (within_limit (record { primary = primary; blocks = with_payload (whole_payload bytes) (unwrap_or blocks []) }))

pub joined_first : (x : Contents) (xs : List Contents) → joined (x ∷ xs) ≡ gap_or (position is_none (known (x ∷ xs))) (within_limit (record { primary = whole_primary x.primary; blocks = with_payload (whole_payload (known (x ∷ xs))) (unwrap_or (option_map frame (find is_first (x ∷ xs))) []) }))
unfolding joined_of gathered
joined_first x xs = refl

pub order_tells_nothing : (xs ys : List Contents) → Agree xs → SameSet xs ys → joined xs ≡ joined ys
unfolding join known
order_tells_nothing [] [] agree set = refl
order_tells_nothing [] (y ∷ ys) agree set = absurd (contains_none y (set.back y (contains_first y ys)))
order_tells_nothing (x ∷ xs) [] agree set = absurd (contains_none x (set.to x (contains_first x xs)))
order_tells_nothing (x ∷ xs) (y ∷ ys) agree set =
    let fields : SameFields x.primary y.primary = fields_are x.primary y.primary (agree.both x y (contains_first x xs) (set.back y (contains_first y ys))).primary in
    let bytes : known (x ∷ xs) ≡ known (y ∷ ys) =
    map_below_same (byte_at (x ∷ xs)) (byte_at (y ∷ ys)) (total_of x) (λ k less. byte_same (x ∷ xs) (y ∷ ys) k agree set) ∙ ap (λ (n : ℕ). map (byte_at (y ∷ ys)) (below n)) fields.total in
    joined_first x xs
    ∙ (ap (λ (p : Primary). join p (option_map frame (find is_first (x ∷ xs))) (known (x ∷ xs))) (whole_same x.primary y.primary fields)
    ∙ (ap (λ (o : Option (List Block)). join (whole_primary y.primary) o (known (x ∷ xs))) (frame_same (x ∷ xs) (y ∷ ys) agree set)
    ∙ (ap (join (whole_primary y.primary) (option_map frame (find is_first (y ∷ ys)))) bytes ∙ sym (joined_first y ys))))

pub joined_none : (bundle : Contents) → joined [] ≡ Ok bundle → ⊥
unfolding joined_of gathered
joined_none bundle is = cc
