-- A primary block's spelling determines the block.
use Rattle.std.proofs.Common.{◌≡◌, ℕ, ◌+◌, ◌^◌, ◌<◌, is_some, List, ◌++◌, refl, sym, ap, ◌∙◌, inl, arith, append_assoc}
use Rattle.std.proofs.Math.Bool.{Bool-set}
use Rattle.std.proofs.lemmas.List.{append_cancel_left}
use Rattle.std.specs.declared.option.Option.{Option}
use Rattle.std.specs.declared.option.Option.TheVariants as options
use Rattle.std.specs.Option.{ForSome}
use Rattle.cbor_profile.specs.declared.head.Head.{Head}
use Rattle.cbor_profile.specs.Head.{IsHead, head_spelling}
use Rattle.cbor_profile.specs.Head as heads
use Rattle.cbor_profile.specs.Put.{uint, array_head}
use Rattle.bp_crc.specs.declared.kind.CheckKind.{CheckKind}
use Rattle.bp_crc.specs.declared.kind.CheckKind.TheVariants.{None, Crc16, Crc32c}
use Rattle.bp_eid.specs.declared.eid.Eid.{Eid}
use Rattle.bp_eid.specs.EndpointId as ids
use Rattle.bp_primary.specs.declared.primary.Piece.{Piece}
use Rattle.bp_primary.specs.declared.primary.Primary.{Primary}
use Rattle.bp_primary.specs.Flags.{is_fragment}
use Rattle.bp_crc.specs.Item.{check_count, check_type}
use Rattle.bp_primary.specs.Fragment.{fragment_items, fragment_count}
use Rattle.bp_primary.specs.Spelling.{IsPrimary, array_with, front, nodes, times, spelling}
use Rattle.bp_primary.proofs.Pieces.{few_items, small_type}

-- the laws of heads and of ids
abbrev pub HeadsHaveOneSpelling : Type 0
HeadsHaveOneSpelling = (a b : Head) (x y : List ℕ) → IsHead a → IsHead b → heads.spelling a ++ x ≡ heads.spelling b ++ y → (a ≡ b) × (x ≡ y)

abbrev pub IdsHaveOneSpelling : Type 0
IdsHaveOneSpelling = (a b : Eid) (x y : List ℕ) → ids.Fits a → ids.Fits b → ids.spelling a ++ x ≡ ids.spelling b ++ y → (a ≡ b) × (x ≡ y)

same_head : HeadsHaveOneSpelling → (major m n : ℕ) (x y : List ℕ) → major < 6 → m < 2 ^ 64 → n < 2 ^ 64 → head_spelling major m ++ x ≡ head_spelling major n ++ y → (m ≡ n) × (x ≡ y)
unfolding heads.spelling
same_head one major m n x y kind fits fits' e =
    let same = one (record { major = major; value = m }) (record { major = major; value = n }) x y (fits, inl kind) (fits', inl kind) e in
    (ap (λ (head : Head). head.value) same.0, same.1)

same_kind : (a b : CheckKind) → check_type a ≡ check_type b → a ≡ b
same_kind None None e = refl
same_kind None Crc16 e = absurd (omega arith)
same_kind None Crc32c e = absurd (omega arith)
same_kind Crc16 None e = absurd (omega arith)
same_kind Crc16 Crc16 e = refl
same_kind Crc16 Crc32c e = absurd (omega arith)
same_kind Crc32c None e = absurd (omega arith)
same_kind Crc32c Crc16 e = absurd (omega arith)
same_kind Crc32c Crc32c e = refl

piece_of : ℕ → ℕ → Piece
piece_of offset total = record { offset = offset; total = total }

piece_parts : (p : Piece) → p ≡ piece_of p.offset p.total
unfolding piece_of
piece_parts p = refl

same_piece : (p q : Piece) → p.offset ≡ q.offset → p.total ≡ q.total → options.Some p ≡ options.Some q
same_piece p q offset total = cc (piece_parts p, piece_parts q)

FitsPiece : Option Piece → Type 0
FitsPiece fragment = ForSome fragment (λ piece. (piece.offset < 2 ^ 64) × (piece.total < 2 ^ 64))

-- where both are fragments or neither is, the items of a fragment determine it
same_fragment : HeadsHaveOneSpelling → (a b : Option Piece) (x y : List ℕ) → FitsPiece a → FitsPiece b → is_some a ≡ is_some b → fragment_items a ++ x ≡ fragment_items b ++ y → a ≡ b
unfolding fragment_items uint FitsPiece
same_fragment one options.None options.None x y fits fits' both e = refl
same_fragment one options.None (options.Some q) x y fits fits' both e = absurd cc
same_fragment one (options.Some p) options.None x y fits fits' both e = absurd cc
same_fragment one (options.Some p) (options.Some q) x y fits fits' both e =
    let regrouped = simp append_assoc at e in
    let offset = same_head one 0 p.offset q.offset _ _ (omega arith) (fits p refl).0 (fits' q refl).0 regrouped in
    let total = same_head one 0 p.total q.total _ _ (omega arith) (fits p refl).1 (fits' q refl).1 offset.1 in
    same_piece p q offset.0 total.0

-- a value of these fields
primary_of : (flags : ℕ) → CheckKind → (destination source report_to : Eid) → (created sequence lifetime : ℕ) → (fragment : Option Piece) → is_some fragment ≡ is_fragment flags → Primary
primary_of flags crc destination source report_to created sequence lifetime fragment fragmented = record {
  flags = flags;
  crc = crc;
  destination = destination;
  source = source;
  report_to = report_to;
  created = created;
  sequence = sequence;
  lifetime = lifetime;
  fragment = fragment;
  fragmented = fragmented;
}

-- the block is the value of these fields, whatever the proof that the flag fits
Is : Primary → (flags : ℕ) → CheckKind → (destination source report_to : Eid) → (created sequence lifetime : ℕ) → Option Piece → Type 0
Is a flags crc destination source report_to created sequence lifetime fragment =
    (fragmented : is_some fragment ≡ is_fragment flags) → a ≡ primary_of flags crc destination source report_to created sequence lifetime fragment fragmented

is_itself : (a : Primary) → Is a a.flags a.crc a.destination a.source a.report_to a.created a.sequence a.lifetime a.fragment
unfolding Is primary_of
is_itself a fragmented =
    ap (primary_of a.flags a.crc a.destination a.source a.report_to a.created a.sequence a.lifetime a.fragment) (Bool-set _ _ a.fragmented fragmented)

same_as : (a b : Primary) → Is a b.flags b.crc b.destination b.source b.report_to b.created b.sequence b.lifetime b.fragment → a ≡ b
unfolding Is primary_of
same_as a b is = is b.fragmented

same_fields : (a b : Primary) → a.flags ≡ b.flags → a.crc ≡ b.crc → a.destination ≡ b.destination → a.source ≡ b.source → a.report_to ≡ b.report_to → a.created ≡ b.created → a.sequence ≡ b.sequence → a.lifetime ≡ b.lifetime → a.fragment ≡ b.fragment → a ≡ b
same_fields a b flags crc destination source report_to created sequence lifetime fragment =
    let is : Is a b.flags b.crc b.destination b.source b.report_to b.created b.sequence b.lifetime b.fragment =
    rw (← flags, ← crc, ← destination, ← source, ← report_to, ← created, ← sequence, ← lifetime, ← fragment) (is_itself a)
    in
    same_as a b is

-- arrays with one front are those of one block, whatever their checks
same_primary : HeadsHaveOneSpelling → IdsHaveOneSpelling → (a b : Primary) (c d x y : List ℕ) → IsPrimary a → IsPrimary b → array_with a c ++ x ≡ array_with b d ++ y → a ≡ b
unfolding array_with front nodes times uint array_head FitsPiece
same_primary one one_id a b c d x y fits fits' e =
    let regrouped = simp append_assoc at e in
    let items = same_head one 4 (8 + fragment_count a.fragment + check_count a.crc) (8 + fragment_count b.fragment + check_count b.crc) _ _ (omega arith) (omega (arith, few_items a)) (omega (arith, few_items b)) regrouped in
    let version = same_head one 0 7 7 _ _ (omega arith) (omega arith) (omega arith) items.1 in
    let flags = same_head one 0 a.flags b.flags _ _ (omega arith) fits.flags fits'.flags version.1 in
    let type = same_head one 0 (check_type a.crc) (check_type b.crc) _ _ (omega arith) (omega (arith, small_type a.crc)) (omega (arith, small_type b.crc)) flags.1 in
    let destination = one_id a.destination b.destination _ _ fits.destination fits'.destination type.1 in
    let source = one_id a.source b.source _ _ fits.source fits'.source destination.1 in
    let report_to = one_id a.report_to b.report_to _ _ fits.report_to fits'.report_to source.1 in
    let pair = same_head one 4 2 2 _ _ (omega arith) (omega arith) (omega arith) report_to.1 in
    let created = same_head one 0 a.created b.created _ _ (omega arith) fits.created fits'.created pair.1 in
    let sequence = same_head one 0 a.sequence b.sequence _ _ (omega arith) fits.sequence fits'.sequence created.1 in
    let lifetime = same_head one 0 a.lifetime b.lifetime _ _ (omega arith) fits.lifetime fits'.lifetime sequence.1 in
    let both : is_some a.fragment ≡ is_some b.fragment = a.fragmented ∙ (ap is_fragment flags.0 ∙ sym b.fragmented) in
    let fragment = same_fragment one a.fragment b.fragment _ _ fits.fragment fits'.fragment both lifetime.1 in
    same_fields a b flags.0 (same_kind a.crc b.crc type.0) destination.0 source.0 report_to.0 created.0 sequence.0 lifetime.0 fragment

pub one_primary : HeadsHaveOneSpelling → IdsHaveOneSpelling → (a b : Primary) (x y : List ℕ) → IsPrimary a → IsPrimary b → spelling a ++ x ≡ spelling b ++ y → (a ≡ b) × (x ≡ y)
unfolding spelling
one_primary one ids a b x y fits fits' e =
    let same = same_primary one ids a b _ _ x y fits fits' e in
    (same, append_cancel_left (spelling b) x y (ap (λ (primary : Primary). spelling primary ++ x) (sym same) ∙ e))
