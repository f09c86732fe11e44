-- A block's spelling determines the block.
use Rattle.std.proofs.Common.{◌≡◌, ℕ, ◌+◌, ◌^◌, ◌<◌, List, ◌++◌, length, take, refl, sym, ap, ◌∙◌, inl, arith, append_assoc}
use Rattle.std.proofs.lemmas.List.{take_at, append_cancel_left}
use Rattle.cbor_profile.specs.declared.head.Head.{Head}
use Rattle.cbor_profile.specs.Head.{IsHead, head_spelling}
use Rattle.cbor_profile.specs.Head as heads
use Rattle.cbor_profile.specs.Put.{uint, byte_string, array_head}
use Rattle.bp_crc.specs.declared.kind.CheckKind.{CheckKind}
use Rattle.bp_crc.specs.declared.kind.CheckKind.TheVariants.{None, Crc16, Crc32c}
use Rattle.bp_blocks.specs.declared.block.Block.{Block}
use Rattle.bp_crc.specs.Item.{check_count, check_type}
use Rattle.bp_blocks.specs.Spelling.{IsBlock, array_with, spelling}

-- the law of heads
abbrev pub HeadsHaveOneSpelling : Type 0
HeadsHaveOneSpelling = (a b : Head) (x y : List ℕ) → IsHead a → IsHead b → heads.spelling a ++ x ≡ heads.spelling b ++ y → (a ≡ b) × (x ≡ y)

same_head : HeadsHaveOneSpelling → (major m n : ℕ) (x y : List ℕ) → major < 6 → m < 2 ^ 64 → n < 2 ^ 64 → head_spelling major m ++ x ≡ head_spelling major n ++ y → (m ≡ n) × (x ≡ y)
unfolding heads.spelling
same_head one major m n x y kind fits fits' e =
    let same = one (record { major = major; value = m }) (record { major = major; value = n }) x y (fits, inl kind) (fits', inl kind) e in
    (ap (λ (head : Head). head.value) same.0, same.1)

-- equal lists have equal fronts of one length
same_front : (a b x y : List ℕ) → length a ≡ length b → a ++ x ≡ b ++ y → a ≡ b
same_front a b x y len e = sym (take_at a x (length b) len) ∙ (ap (take (length b)) e ∙ take_at b y (length b) refl)

same_string : HeadsHaveOneSpelling → (a b x y : List ℕ) → length a < 2 ^ 63 → length b < 2 ^ 63 → byte_string a ++ x ≡ byte_string b ++ y → a ≡ b
unfolding byte_string
same_string one a b x y short short' e =
    let len = same_head one 2 (length a) (length b) (a ++ x) (b ++ y) (omega arith) (omega arith) (omega arith) (simp append_assoc at e) in
    same_front a b x y len.0 len.1

same_kind : (a b : CheckKind) → check_type a ≡ check_type b → a ≡ b
same_kind None None e = refl
same_kind None Crc16 e = absurd (omega arith)
same_kind None Crc32c e = absurd (omega arith)
same_kind Crc16 None e = absurd (omega arith)
same_kind Crc16 Crc16 e = refl
same_kind Crc16 Crc32c e = absurd (omega arith)
same_kind Crc32c None e = absurd (omega arith)
same_kind Crc32c Crc16 e = absurd (omega arith)
same_kind Crc32c Crc32c e = refl

-- small numbers of items and check types
small : (kind : CheckKind) → (check_count kind < 2) × (check_type kind < 3)
small None = (omega arith, omega arith)
small Crc16 = (omega arith, omega arith)
small Crc32c = (omega arith, omega arith)

block_of : ℕ → ℕ → ℕ → CheckKind → List ℕ → Block
block_of kind number flags crc body = record { kind = kind; number = number; flags = flags; crc = crc; body = body }

parts : (a : Block) → a ≡ block_of a.kind a.number a.flags a.crc a.body
unfolding block_of
parts a = refl

same_fields : (a b : Block) → a.kind ≡ b.kind → a.number ≡ b.number → a.flags ≡ b.flags → a.crc ≡ b.crc → a.body ≡ b.body → a ≡ b
same_fields a b kind number flags crc body = cc (parts a, parts b)

-- arrays with one front are those of one block, whatever their checks
same_block : HeadsHaveOneSpelling → (a b : Block) (c d x y : List ℕ) → IsBlock a → IsBlock b → array_with a c ++ x ≡ array_with b d ++ y → a ≡ b
unfolding array_with uint array_head
same_block one a b c d x y fits fits' e =
    let regrouped = simp append_assoc at e in
    let items = same_head one 4 (5 + check_count a.crc) (5 + check_count b.crc) _ _ (omega arith) (omega (arith, small a.crc)) (omega (arith, small b.crc)) regrouped in
    let kind = same_head one 0 a.kind b.kind _ _ (omega arith) fits.kind fits'.kind items.1 in
    let number = same_head one 0 a.number b.number _ _ (omega arith) fits.number fits'.number kind.1 in
    let flags = same_head one 0 a.flags b.flags _ _ (omega arith) fits.flags fits'.flags number.1 in
    let type = same_head one 0 (check_type a.crc) (check_type b.crc) _ _ (omega arith) (omega (arith, small a.crc)) (omega (arith, small b.crc)) flags.1 in
    let crc = same_kind a.crc b.crc type.0 in
    let body = same_string one a.body b.body _ _ fits.body fits'.body type.1 in
    same_fields a b kind.0 number.0 flags.0 crc body

pub one_block : HeadsHaveOneSpelling → (a b : Block) (x y : List ℕ) → IsBlock a → IsBlock b → spelling a ++ x ≡ spelling b ++ y → (a ≡ b) × (x ≡ y)
unfolding spelling
one_block one a b x y fits fits' e =
    let same = same_block one a b _ _ x y fits fits' e in
    (same, append_cancel_left (spelling b) x y (ap (λ (block : Block). spelling block ++ x) (sym same) ∙ e))
