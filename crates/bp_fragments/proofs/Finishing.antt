-- Fragments are joined.
use Rattle.std.proofs.Common.{◌≡◌, ◌⊎◌, inl, inr, ℕ, zero, suc, ◌+◌, ◌-◌, ◌^◌, ◌<◌, ◌≤◌, Bool, true, false, cond, ltb, eq-eqb, List, [], ◌∷◌, length, get_or, Option, Some, None, Result, Ok, Err, refl, sym, ◌∙◌, ap, subst, arith}
use Rattle.std.specs.Prelude.{MatchResult, Contains, option_map, unwrap_or, is_none}
use Rattle.std.specs.List.{slice_get, position, All}
use Rattle.std.proofs.lemmas.Bool.{cases_lt, lt-ltb, le-ltb, ltb-false, eqb-true}
use Rattle.std.proofs.lemmas.List.{length-map}
use Rattle.std.proofs.lemmas.Option.{get_or_from_slice_get}
use Rattle.cbor_profile.specs.declared.TheConstants.{BUNDLE_LIMIT}
use Rattle.cbor_profile.specs.Put.{uint, byte_string}
use Rattle.bp_primary.specs.declared.primary.Primary.{Primary}
use Rattle.bp_primary.specs.Spelling.{IsPrimary}
use Rattle.bp_blocks.specs.declared.block.Block.{Block}
use Rattle.bp_blocks.specs.Spelling.{IsBlock}
use Rattle.bp_bundle.specs.Shape.{Contents, body_of}
use Rattle.bp_bundle.specs.Spelling.{IsBundle, spelling}
use Rattle.bp_bundle.specs.Edits.{body_at}
use Rattle.bp_bundle.proofs.ShapeRules.{Keeps, position_none}
use Rattle.bp_bundle.proofs.Sizes.{whole_size}
use Rattle.bp_bundle.proofs.NoFaultOfShape.{keeps_of, bundle_of}
use Rattle.bp_bundle.proofs.EditsLeaveBundles.{SameKeys, kept, keys_of_body}
use Rattle.bp_fragments.specs.Fragment.{offset_of, with_payload}
use Rattle.bp_fragments.specs.Cut.{whole_primary}
use Rattle.bp_fragments.specs.Known.{byte_at, whole_length, known}
use Rattle.bp_fragments.specs.Agreement.{frame, is_first, Gathered, gathered, Agree}
use Rattle.bp_fragments.specs.Joined.{whole_payload, whole_with, whole, within_limit, gap_or, joined_by, joined_of, joined, IsJoinFault, IsWhole}
use Rattle.bp_fragments.specs.Ready.{IsLong, IsLongFault}
use Rattle.bp_fragments.specs.Assembled.{Took}
use Rattle.bp_fragments.specs.declared.fault.FinishFault.{FinishFault}
use Rattle.bp_fragments.specs.declared.fault.FinishFault.TheVariants as ends
use Rattle.bp_fragments.proofs.Members.{contains_first, find_is, is_found}
use Rattle.bp_fragments.proofs.Bytes.{byte_inside, byte_from, length-known, get_known}
use Rattle.cbor_profile.proofs.Sizes.{head_same, length-bytes}
use Rattle.bp_fragments.proofs.Sizes.{payload_changed}

-- ---- what is joined, by what is gathered

joined_is : (kept : Gathered) (pieces : List Contents) → Took kept pieces → joined pieces ≡ joined_of kept
joined_is kept pieces took = ap joined_of (sym took.is)

pub empty_so : (kept : Gathered) (pieces : List Contents) → Took kept pieces → kept.primary ≡ None → joined pieces ≡ Err ends.Empty
unfolding joined_of
empty_so kept pieces took none = joined_is kept pieces took ∙ ap (λ (o : Option Primary). joined_by o kept) none

first_joined : (kept : Gathered) (pieces : List Contents) (first : Primary) → Took kept pieces → kept.primary ≡ Some first → joined pieces ≡ gap_or (position is_none kept.known) (within_limit (whole first kept))
unfolding joined_of
first_joined kept pieces first took some = joined_is kept pieces took ∙ ap (λ (o : Option Primary). joined_by o kept) some

pub gap_so : (kept : Gathered) (pieces : List Contents) (first : Primary) (place : ℕ) → Took kept pieces → kept.primary ≡ Some first → Some place ≡ position is_none kept.known → joined pieces ≡ Err (ends.Gap place)
gap_so kept pieces first place took some gap = first_joined kept pieces first took some ∙ ap (λ (o : Option ℕ). gap_or o (within_limit (whole first kept))) (sym gap)

no_gap : (kept : Gathered) (pieces : List Contents) (first : Primary) → Took kept pieces → kept.primary ≡ Some first → None ≡ position is_none kept.known → joined pieces ≡ within_limit (whole first kept)
no_gap kept pieces first took some gap = first_joined kept pieces first took some ∙ ap (λ (o : Option ℕ). gap_or o (within_limit (whole first kept))) (sym gap)

-- ---- a fragment of offset 0 is there

pub record FirstPiece (kept : Gathered) (pieces : List Contents) (piece : Contents) : Type 0 where
  pub there : Contains pieces piece
  pub offset : offset_of piece ≡ 0
  pub frame : kept.frame ≡ Some (frame piece)

found_first : (pieces : List Contents) (a : Contents) → Contains pieces a → offset_of a ≡ 0 → (piece : Contents) × FirstPiece (gathered pieces) pieces piece
unfolding gathered
found_first pieces a in_pieces offset =
    let found = is_found is_first pieces a in_pieces (eq-eqb _ _ offset) in
    let is = find_is is_first pieces found.0 found.1 in
    (found.0, record { there = is.0; offset = eqb-true _ _ is.1; frame = ap (option_map frame) found.1 })

pub known_some : (pieces : List Contents) (place : ℕ) → place < whole_length pieces → position is_none (known pieces) ≡ None → (byte : ℕ) × (byte_at pieces place ≡ Some byte)
known_some pieces place within all = by_byte (byte_at pieces place) refl
  where
    by_byte : (o : Option ℕ) → byte_at pieces place ≡ o → (byte : ℕ) × (byte_at pieces place ≡ Some byte)
    by_byte (Some byte) is = (byte, is)
    by_byte None is = absurd (let t : is_none (get_or (known pieces) place None) ≡ true = ap is_none (get_or_from_slice_get (known pieces) place (byte_at pieces place) None (get_known pieces place within) ∙ is) in let f = position_none is_none (known pieces) all place None (omega (arith, length-known pieces)) in cc)

pub at_zero : (pieces : List Contents) → 0 < length pieces → Agree pieces → position is_none (known pieces) ≡ None → (a : Contents) × Contains pieces a × (offset_of a ≡ 0)
at_zero [] some agree all = absurd (omega arith)
at_zero (first ∷ more) some agree all = by_length (cases_lt 0 (whole_length (first ∷ more)))
  where
    by_length : (0 < whole_length (first ∷ more)) ⊎ (whole_length (first ∷ more) ≤ 0) → (a : Contents) × Contains (first ∷ more) a × (offset_of a ≡ 0)
    by_length (inl filled) =
        let byte = known_some (first ∷ more) 0 filled all in
        let from = byte_from (first ∷ more) 0 byte.0 byte.1 in
        let at = byte_inside from.0 0 byte.0 from.2 in
        (from.0, from.1, omega (arith, at.0))
    by_length (inr empty) =
        let in_first = contains_first first more in
        let room = (agree.each first in_first).within in
        (first, in_first, omega arith)

some_pieces : (pieces : List Contents) (first : Primary) → option_map (λ p. p.primary) (slice_get pieces 0) ≡ Some first → 0 < length pieces
some_pieces [] first is = absurd cc
some_pieces (p ∷ more) first is = omega arith

first_of : (pieces : List Contents) (first : Primary) → (gathered pieces).primary ≡ Some first → 0 < length pieces
unfolding gathered
first_of pieces first is = some_pieces pieces first is

known_of : (pieces : List Contents) → (gathered pieces).known ≡ known pieces
unfolding gathered
known_of pieces = refl

pub first_piece : (kept : Gathered) (pieces : List Contents) (first : Primary) → Took kept pieces → kept.primary ≡ Some first → None ≡ position is_none kept.known → (piece : Contents) × FirstPiece kept pieces piece
first_piece kept pieces first took some gap =
    let own : (gathered pieces).primary ≡ Some first = ap (λ (g : Gathered). g.primary) (sym took.is) ∙ some in
    let all : position is_none (known pieces) ≡ None = ap (position is_none) (sym (ap (λ (g : Gathered). g.known) took.is ∙ known_of pieces)) ∙ sym gap in
    let zero_piece = at_zero pieces (first_of pieces first own) took.agree all in
    let found = found_first pieces zero_piece.0 zero_piece.1 zero_piece.2 in
    (found.0, record { there = found.1.there; offset = found.1.offset; frame = ap (λ (g : Gathered). g.frame) took.is ∙ found.1.frame })

-- ---- how long the whole is

frame_length : (piece : Contents) → length (frame piece) ≡ length piece.blocks
frame_length piece = (keys_of_body (length piece.blocks - 1) [] piece.blocks).len

empty_payload : (bs : List Block) → 0 < length bs → body_of (slice_get (with_payload [] bs) (length (with_payload [] bs) - 1)) ≡ []
empty_payload bs some =
    ap (λ (n : ℕ). body_of (slice_get (with_payload [] bs) (n - 1))) (keys_of_body (length bs - 1) [] bs).len ∙ at_index bs (length bs - 1) (omega arith)
  where
    at_index : (xs : List Block) (i : ℕ) → i < length xs → body_of (slice_get (body_at i [] xs) i) ≡ []
    at_index [] i less = absurd (omega arith)
    at_index (x ∷ xs) zero less = refl
    at_index (x ∷ xs) (suc i) less = at_index xs i (omega arith)

string_of : (content : List ℕ) → length (byte_string content) ≡ length (uint (length content)) + length content
unfolding uint
string_of content = length-bytes content ∙ ap (λ (n : ℕ). n + length content) (head_same 2 0 (length content))

whole_long : (primary : Primary) (piece : Contents) (bytes : List ℕ) → 0 < length piece.blocks
    → length (spelling (record { primary = primary; blocks = with_payload bytes (frame piece) })) + 1 ≡ length (spelling (record { primary = primary; blocks = frame piece })) + length (uint (length bytes)) + length bytes
unfolding uint
whole_long primary piece bytes some =
    let filled : 0 < length (frame piece) = omega (arith, frame_length piece) in
    let changed = payload_changed (frame piece) bytes filled in
    let none = ap (λ (xs : List ℕ). length (byte_string xs)) (empty_payload piece.blocks some) in
    let empty_string : length (byte_string []) ≡ 1 = string_of [] in
    omega (arith, whole_size (record { primary = primary; blocks = with_payload bytes (frame piece) }), whole_size (record { primary = primary; blocks = frame piece }), string_of bytes)

payload_length : (kept_bytes : List (Option ℕ)) → length (whole_payload kept_bytes) ≡ length kept_bytes
payload_length kept_bytes = length-map kept_bytes (λ byte. unwrap_or byte 0)

whole_is : (primary : Primary) (kept : Gathered) (blocks : List Block) → kept.frame ≡ Some blocks → whole_with primary kept ≡ record { primary = primary; blocks = with_payload (whole_payload kept.known) blocks }
whole_is primary kept blocks is = ap (λ (o : Option (List Block)). record { primary = primary; blocks = with_payload (whole_payload kept.known) (unwrap_or o []) }) is

-- the spelling of the whole, and what was counted of it
counted : (primary : Primary) (kept : Gathered) (piece : Contents) → IsBundle piece → kept.frame ≡ Some (frame piece)
    → length (spelling (whole_with primary kept)) + 1 ≡ length (spelling (record { primary = primary; blocks = frame piece })) + length (uint (length kept.known)) + length kept.known
counted primary kept piece bundle is =
    let some = bundle.some in
    ap (λ (b : Contents). length (spelling b) + 1) (whole_is primary kept (frame piece) is)
    ∙ (whole_long primary piece (whole_payload kept.known) (omega arith)
    ∙ ap (λ (n : ℕ). length (spelling (record { primary = primary; blocks = frame piece })) + length (uint n) + n) (payload_length kept.known))

long_at : (o : Option (List Block)) (blocks : List Block) (primary : Primary) (total : ℕ) → o ≡ Some blocks → IsLong o primary total → BUNDLE_LIMIT + 1 < length (spelling (record { primary = primary; blocks = blocks })) + length (uint total) + total
long_at o blocks primary total is long = subst (λ (x : Option (List Block)). IsLong x primary total) is long

at_long : (o : Option (List Block)) (blocks : List Block) (primary : Primary) (total : ℕ) → o ≡ Some blocks → BUNDLE_LIMIT + 1 < length (spelling (record { primary = primary; blocks = blocks })) + length (uint total) + total → IsLong o primary total
at_long o blocks primary total is long = subst (λ (x : Option (List Block)). IsLong x primary total) (sym is) long

pub long_so : (kept : Gathered) (pieces : List Contents) (first : Primary) → Took kept pieces → kept.primary ≡ Some first → None ≡ position is_none kept.known → IsLong kept.frame (whole_primary first) (length kept.known) → joined pieces ≡ Err ends.TooLong
long_so kept pieces first took some gap long =
    let piece = first_piece kept pieces first took some gap in
    let size = counted (whole_primary first) kept piece.0 (took.bundles piece.0 piece.1.there) piece.1.frame in
    let more = long_at kept.frame (frame piece.0) (whole_primary first) (length kept.known) piece.1.frame long in
    let past : BUNDLE_LIMIT < length (spelling (whole first kept)) = omega arith in
    no_gap kept pieces first took some gap ∙ ap (λ (b : Bool). cond b (Err ends.TooLong) (Ok (whole first kept))) (lt-ltb _ _ past)

pub short_so : (kept : Gathered) (pieces : List Contents) (first : Primary) → Took kept pieces → kept.primary ≡ Some first → None ≡ position is_none kept.known → (IsLong kept.frame (whole_primary first) (length kept.known) → ⊥) → joined pieces ≡ Ok (whole first kept)
short_so kept pieces first took some gap short =
    let piece = first_piece kept pieces first took some gap in
    let size = counted (whole_primary first) kept piece.0 (took.bundles piece.0 piece.1.there) piece.1.frame in
    no_gap kept pieces first took some gap ∙ ap (λ (b : Bool). cond b (Err ends.TooLong) (Ok (whole first kept))) (le-ltb _ _ (within piece.0 piece.1 size))
  where
    within : (piece : Contents) → FirstPiece kept pieces piece → length (spelling (whole first kept)) + 1 ≡ length (spelling (record { primary = whole_primary first; blocks = frame piece })) + length (uint (length kept.known)) + length kept.known → length (spelling (whole first kept)) ≤ BUNDLE_LIMIT
    within piece is size = elim (cases_lt BUNDLE_LIMIT (length (spelling (whole first kept)))) [
      | inl long ↦ absurd (short (at_long kept.frame (frame piece) (whole_primary first) (length kept.known) is.frame (omega arith)))
      | inr fits ↦ fits
    ]

pub fault_so : (kept : Gathered) (pieces : List Contents) (first : Primary) (fault : FinishFault) → Took kept pieces → kept.primary ≡ Some first → None ≡ position is_none kept.known → IsLongFault fault kept.frame (whole_primary first) (length kept.known) → IsJoinFault fault (joined pieces)
fault_so kept pieces first ends.NoMemory took some gap is = tt
fault_so kept pieces first ends.Empty took some gap is = absurd (let e = is.0 in cc)
fault_so kept pieces first (ends.Gap place) took some gap is = absurd (let e = is.0 in cc)
fault_so kept pieces first ends.TooLong took some gap is = long_so kept pieces first took some gap is.1

pub ready_so : (r : Result Primary FinishFault) (kept : Gathered) (blocks : Option (List Block)) (total : ℕ) (pieces : List Contents) (first : Primary) → Took kept pieces → kept.primary ≡ Some first → None ≡ position is_none kept.known → blocks ≡ kept.frame → total ≡ length kept.known
    → MatchResult r (λ primary. (primary ≡ whole_primary first) × (IsLong blocks (whole_primary first) total → ⊥)) (λ fault. IsLongFault fault blocks (whole_primary first) total)
    → MatchResult r (λ primary. joined pieces ≡ Ok (whole_with primary kept)) (λ fault. IsJoinFault fault (joined pieces))
ready_so (Ok primary) kept blocks total pieces first took some gap same size is =
    short_so kept pieces first took some gap (subst (λ (o : Option (List Block)). IsLong o (whole_primary first) (length kept.known) → ⊥) same (subst (λ (n : ℕ). IsLong blocks (whole_primary first) n → ⊥) size is.1)) ∙ ap (λ (p : Primary). Ok (whole_with p kept)) (sym is.0)
ready_so (Err fault) kept blocks total pieces first took some gap same size is =
    fault_so kept pieces first fault took some gap (subst (λ (o : Option (List Block)). IsLongFault fault o (whole_primary first) (length kept.known)) same (subst (λ (n : ℕ). IsLongFault fault blocks (whole_primary first) n) size is))

-- ---- the whole is a bundle

all_body : (bs : List Block) (i : ℕ) (body : List ℕ) → All IsBlock bs → length body < 2 ^ 63 → All IsBlock (body_at i body bs)
all_body [] i body all few k d inside = absurd (omega arith)
all_body (b ∷ bs) zero body all few zero d inside = let own = all 0 d (omega arith) in record { kind = own.kind; number = own.number; flags = own.flags; body = few }
all_body (b ∷ bs) zero body all few (suc k) d inside = all (suc k) d (omega arith)
all_body (b ∷ bs) (suc i) body all few zero d inside = all 0 d (omega arith)
all_body (b ∷ bs) (suc i) body all few (suc k) d inside = all_body bs i body (λ j e less. all (suc j) e (omega arith)) few k d (omega arith)

whole_fits : (primary : Primary) → IsPrimary primary → IsPrimary (whole_primary primary)
whole_fits primary fits =
    let flags = fits.flags in
    record {
      flags = omega arith;
      destination = fits.destination;
      source = fits.source;
      report_to = fits.report_to;
      created = fits.created;
      sequence = fits.sequence;
      lifetime = fits.lifetime;
      fragment = λ piece is. absurd cc;
    }

first_primary : (pieces : List Contents) (first : Primary) → option_map (λ p. p.primary) (slice_get pieces 0) ≡ Some first → ((piece : Contents) → Contains pieces piece → IsBundle piece) → IsPrimary first
first_primary [] first is bundles = absurd cc
first_primary (p ∷ more) first is bundles = let same : p.primary ≡ first = cc in subst IsPrimary same (bundles p (contains_first p more)).primary

of_gathered : (pieces : List Contents) → (gathered pieces).primary ≡ option_map (λ p. p.primary) (slice_get pieces 0)
unfolding gathered
of_gathered pieces = refl

whole_length_few : (pieces : List Contents) → 0 < length pieces → Agree pieces → whole_length pieces ≤ BUNDLE_LIMIT
whole_length_few [] some agree = absurd (omega arith)
whole_length_few (first ∷ more) some agree = (agree.each first (contains_first first more)).limit

keys_kept : (xs ys : List Block) (n m : ℕ) → SameKeys xs ys → Keeps n xs → m ≤ BUNDLE_LIMIT → Keeps m ys
keys_kept xs ys n m same keeps within = kept xs ys n m same keeps within

pub whole_bundle : (kept : Gathered) (pieces : List Contents) (first : Primary) → Took kept pieces → kept.primary ≡ Some first → None ≡ position is_none kept.known → length (spelling (whole first kept)) ≤ BUNDLE_LIMIT → IsBundle (whole first kept)
whole_bundle kept pieces first took some gap within =
    let piece = first_piece kept pieces first took some gap in
    let bundle = took.bundles piece.0 piece.1.there in
    let own : (gathered pieces).primary ≡ Some first = ap (λ (g : Gathered). g.primary) (sym took.is) ∙ some in
    let fits = whole_fits first (first_primary pieces first (sym (of_gathered pieces) ∙ own) took.bundles) in
    let known_len : length kept.known ≡ whole_length pieces = ap (λ (g : Gathered). length g.known) took.is ∙ (ap length (known_of pieces) ∙ length-known pieces) in
    let few = whole_length_few pieces (first_of pieces first own) took.agree in
    let bytes = whole_payload kept.known in
    let size : length bytes < 2 ^ 63 = omega (arith, payload_length kept.known) in
    let blocks = with_payload bytes (frame piece.0) in
    let whole_here : Contents = record { primary = whole_primary first; blocks = blocks } in
    let same : whole first kept ≡ whole_here = whole_is (whole_primary first) kept (frame piece.0) piece.1.frame in
    let all : All IsBlock blocks = all_body (frame piece.0) (length (frame piece.0) - 1) bytes (all_body piece.0.blocks (length piece.0.blocks - 1) [] bundle.blocks (omega arith)) size in
    let keeps_frame = keys_kept piece.0.blocks (frame piece.0) (length (spelling piece.0)) 0 (keys_of_body (length piece.0.blocks - 1) [] piece.0.blocks) (keeps_of piece.0 bundle) (omega arith) in
    let short : length (spelling whole_here) ≤ BUNDLE_LIMIT = subst (λ (b : Contents). length (spelling b) ≤ BUNDLE_LIMIT) same within in
    let keeps = keys_kept (frame piece.0) blocks 0 (length (spelling whole_here)) (keys_of_body (length (frame piece.0) - 1) bytes (frame piece.0)) keeps_frame short in
    subst IsBundle (sym same) (bundle_of whole_here fits all keeps)

-- ---- what is closed

limit_of : (b : Bool) (n : ℕ) (bundle found : Contents) → ltb BUNDLE_LIMIT n ≡ b → ◌≡◌ {A = Result Contents FinishFault} (cond b (Err ends.TooLong) (Ok bundle)) (Ok found) → (n ≤ BUNDLE_LIMIT) × (bundle ≡ found)
limit_of true n bundle found test is = absurd cc
limit_of false n bundle found test is = (ltb-false _ _ test, cc)

pub gap_of : (o : Option ℕ) (bundle found : Contents) → gap_or o (within_limit bundle) ≡ Ok found → (o ≡ None) × (length (spelling bundle) ≤ BUNDLE_LIMIT) × (bundle ≡ found)
gap_of (Some place) bundle found is = absurd cc
gap_of None bundle found is = let parts = limit_of (ltb BUNDLE_LIMIT (length (spelling bundle))) (length (spelling bundle)) bundle found refl is in (refl, parts.0, parts.1)

joined_whole : (kept : Gathered) (o : Option Primary) (found : Contents) → kept.primary ≡ o → joined_by o kept ≡ Ok found → (first : Primary) × (kept.primary ≡ Some first) × (position is_none kept.known ≡ None) × (length (spelling (whole first kept)) ≤ BUNDLE_LIMIT) × (whole first kept ≡ found)
joined_whole kept None found there is = absurd cc
joined_whole kept (Some first) found there is = let parts = gap_of (position is_none kept.known) (whole first kept) found is in (first, there, parts.0, parts.1, parts.2)

of_joined : (kept : Gathered) (pieces : List Contents) (found : Contents) → Took kept pieces → joined pieces ≡ Ok found → (first : Primary) × (kept.primary ≡ Some first) × (position is_none kept.known ≡ None) × (length (spelling (whole first kept)) ≤ BUNDLE_LIMIT) × (whole first kept ≡ found)
unfolding joined_of
of_joined kept pieces found took is = joined_whole kept kept.primary found refl (sym (joined_is kept pieces took) ∙ is)

is_whole : (o : Option (List Block)) (blocks : List Block) (bundle : Contents) (primary : Primary) (kept_bytes : List (Option ℕ)) → o ≡ Some blocks → 0 < length blocks → position is_none kept_bytes ≡ None → bundle ≡ record { primary = primary; blocks = with_payload (whole_payload kept_bytes) blocks } → IsWhole bundle primary o kept_bytes
is_whole o blocks bundle primary kept_bytes there some all is = subst (λ (x : Option (List Block)). IsWhole bundle primary x kept_bytes) (sym there) (some, all, is)

-- the whole is made of what is gathered, and is a bundle
pub closes : (kept : Gathered) (pieces : List Contents) (primary : Primary) → Took kept pieces → joined pieces ≡ Ok (whole_with primary kept) → IsWhole (whole_with primary kept) primary kept.frame kept.known × IsBundle (whole_with primary kept)
closes kept pieces primary took is =
    let parts = of_joined kept pieces (whole_with primary kept) took is in
    let first = parts.0 in
    let piece = first_piece kept pieces first took parts.1 (sym parts.2) in
    let bundle = took.bundles piece.0 piece.1.there in
    let some = bundle.some in
    (is_whole kept.frame (frame piece.0) (whole_with primary kept) primary kept.known piece.1.frame (omega (arith, frame_length piece.0)) parts.2 (whole_is primary kept (frame piece.0) piece.1.frame), subst IsBundle parts.4 (whole_bundle kept pieces first took parts.1 (sym parts.2) parts.3))

pub closed_so : (kept : Gathered) (pieces : List Contents) (primary : Primary) (found : Contents) → ((bundle : Contents) → IsWhole bundle primary kept.frame kept.known → IsBundle bundle → ◌≡◌ {A = Option Contents} (Some found) (Some bundle)) → Took kept pieces → joined pieces ≡ Ok (whole_with primary kept) → joined pieces ≡ Ok found
closed_so kept pieces primary found made took is =
    let both = closes kept pieces primary took is in
    let same = made (whole_with primary kept) both.0 both.1 in
    let e : found ≡ whole_with primary kept = cc in
    is ∙ ap (λ (b : Contents). Ok b) (sym e)

pub not_closed : (kept : Gathered) (pieces : List Contents) (primary : Primary) → ((bundle : Contents) → IsWhole bundle primary kept.frame kept.known → IsBundle bundle → ◌≡◌ {A = Option Contents} None (Some bundle)) → Took kept pieces → joined pieces ≡ Ok (whole_with primary kept) → ⊥
not_closed kept pieces primary made took is =
    let both = closes kept pieces primary took is in
    let same = made (whole_with primary kept) both.0 both.1 in
    cc
