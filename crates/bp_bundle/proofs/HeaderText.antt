-- The array of a block that is fed piece by piece: its header, its body and its check.
use Rattle.std.proofs.Common.{◌≡◌, ℕ, ◌+◌, ◌≤◌, List, ◌++◌, length, sym, ap, ◌∙◌, arith, append_assoc, length-append}
use Rattle.cbor_profile.specs.Head.{head_spelling}
use Rattle.cbor_profile.specs.Put.{uint, array_head, byte_string}
use Rattle.cbor_profile.proofs.Sizes.{head_at_most}
use Rattle.bp_crc.specs.declared.kind.CheckKind.{CheckKind}
use Rattle.bp_crc.specs.declared.kind.CheckKind.TheVariants as kinds
use Rattle.bp_crc.specs.Item.{check_type, check_count, check_item, zeros}
use Rattle.bp_blocks.specs.Spelling as blocks
use Rattle.bp_bundle.specs.declared.header.Header.{Header}
use Rattle.bp_bundle.specs.HeaderText.{header_text}
use Rattle.bp_bundle.specs.FirstFault.{block_of}

pub header_short : (header : Header) → length (header_text header) ≤ 54
unfolding header_text array_head uint
header_short h =
    let a = head_spelling 4 (5 + check_count h.crc) in
    let b = head_spelling 0 h.kind in
    let c = head_spelling 0 h.number in
    let d = head_spelling 0 h.flags in
    let e = head_spelling 0 (check_type h.crc) in
    let f = head_spelling 2 h.len in
    omega (
      arith,
      length-append (a ++ b ++ c ++ d ++ e) f,
      length-append (a ++ b ++ c ++ d) e,
      length-append (a ++ b ++ c) d,
      length-append (a ++ b) c,
      length-append a b,
      head_at_most 4 (5 + check_count h.crc),
      head_at_most 0 h.kind,
      head_at_most 0 h.number,
      head_at_most 0 h.flags,
      head_at_most 0 (check_type h.crc),
      head_at_most 2 h.len,
    )

pub item_short : (kind : CheckKind) → length (check_item kind (zeros kind)) ≤ 5
unfolding byte_string
item_short kinds.None = omega arith
item_short kinds.Crc16 = omega arith
item_short kinds.Crc32c = omega arith

pub array_text : (header : Header) (body : List ℕ) → length body ≡ header.len → (header_text header ++ body) ++ check_item header.crc (zeros header.crc) ≡ blocks.array_with (block_of header body) (zeros header.crc)
unfolding header_text blocks.array_with byte_string
array_text h body is =
    let front = array_head (5 + check_count h.crc) ++ uint h.kind ++ uint h.number ++ uint h.flags ++ uint (check_type h.crc) in
    ap (λ (n : ℕ). ((front ++ head_spelling 2 n) ++ body) ++ check_item h.crc (zeros h.crc)) (sym is)
    ∙ ap (λ (xs : List ℕ). xs ++ check_item h.crc (zeros h.crc)) (append_assoc front (head_spelling 2 (length body)) body)
