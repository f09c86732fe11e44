-- How many bytes a fragment has.
use Rattle.std.proofs.Common.{◌≡◌, ℕ, ◌+◌, ◌-◌, ◌*◌, ◌^◌, ◌<◌, ◌≤◌, min, List, [], ◌∷◌, length, take, drop, inl, inr, refl, ◌∙◌, ap, arith, length-append, length-drop}
use Rattle.std.specs.Prelude.{filter}
use Rattle.std.specs.List.{slice_get}
use Rattle.std.proofs.lemmas.Bool.{cases_lt}
use Rattle.std.proofs.lemmas.List.{length-take}
use Rattle.cbor_profile.specs.declared.TheConstants.{BUNDLE_LIMIT}
use Rattle.cbor_profile.specs.Head.{head_spelling}
use Rattle.cbor_profile.specs.Put.{uint, byte_string}
use Rattle.bp_primary.specs.declared.primary.Primary.{Primary}
use Rattle.bp_primary.specs.declared.primary.Piece.{Piece}
use Rattle.bp_primary.specs.Fragment.{fragment_items}
use Rattle.bp_primary.specs.Spelling as primaries
use Rattle.bp_primary.specs.Spelling.{nodes, times}
use Rattle.bp_blocks.specs.declared.block.Block.{Block}
use Rattle.bp_bundle.specs.Shape.{Contents, body_of, payload}
use Rattle.bp_bundle.specs.Spelling.{IsBundle, spelling}
use Rattle.bp_bundle.proofs.Sizes.{spelled, whole_size}
use Rattle.bp_bundle.specs.Edits.{check_size}
use Rattle.bp_fragments.specs.Cut.{fragment_at, fragment_flags, fragment_primary, is_kept}
use Rattle.cbor_profile.proofs.Sizes.{head_at_least, head_one, five_at_most, uint_at_most, head_grows, length-bytes}
use Rattle.bp_bundle.proofs.BlockSizes.{primary_size}
use Rattle.bp_fragments.proofs.Sizes.{payload_changed, kept_less}
use Rattle.bp_fragments.proofs.Cutting.{kept_last}

-- ---- how long a fragment is

-- what every form of a primary block has
common : Primary → ℕ
common primary = 3 + length (nodes primary) + length (times primary) + check_size primary.crc

fragment_size : (primary : Primary) (piece : Piece) → length (primaries.spelling (fragment_primary piece primary)) ≡ common primary + length (uint (fragment_flags primary.flags)) + length (uint piece.offset) + length (uint piece.total)
unfolding common fragment_items nodes times
fragment_size primary piece =
    omega (arith, primary_size (fragment_primary piece primary), length-append (uint piece.offset) (uint piece.total))

whole_at_least : (primary : Primary) → common primary + length (uint primary.flags) ≤ length (primaries.spelling primary)
unfolding common
whole_at_least primary = omega (arith, primary_size primary)

-- how many bytes a byte string has
string_size : ℕ → ℕ
string_size len = length (head_spelling 2 len) + len

length-string : (content : List ℕ) → length (byte_string content) ≡ string_size (length content)
unfolding string_size
length-string content = length-bytes content

string_grows : (n m : ℕ) → n ≤ m → m < 2 ^ 32 → string_size n + (m - n) ≤ string_size m
unfolding string_size
string_grows n m le fits = let grows = head_grows 2 n m le in omega arith

piece_bytes : Contents → ℕ → ℕ → List ℕ
piece_bytes bundle size index = take size (drop (index * size) (payload bundle))

length-piece : (bundle : Contents) (size index : ℕ) → length (piece_bytes bundle size index) ≡ min size (length (payload bundle) - index * size)
unfolding piece_bytes
length-piece bundle size index = omega (arith, length-take size (drop (index * size) (payload bundle)), length-drop (index * size) (payload bundle))

kept_payload : (bundle : Contents) (index : ℕ) → IsBundle bundle → body_of (slice_get (filter (is_kept index) bundle.blocks) (length (filter (is_kept index) bundle.blocks) - 1)) ≡ payload bundle
kept_payload bundle index is = ap body_of (kept_last bundle index is).same

-- the blocks of a fragment
blocks_size : (bundle : Contents) (size index : ℕ) → IsBundle bundle
    → length (spelled (fragment_at bundle size index).blocks) + string_size (length (payload bundle)) ≡ length (spelled (filter (is_kept index) bundle.blocks)) + string_size (length (piece_bytes bundle size index))
unfolding fragment_at piece_bytes
blocks_size bundle size index is =
    let changed = payload_changed (filter (is_kept index) bundle.blocks) (take size (drop (index * size) (payload bundle))) (kept_last bundle index is).some in
    let own = ap (λ (x : List ℕ). length (byte_string x)) (kept_payload bundle index is) ∙ length-string (payload bundle) in
    omega (arith, length-string (take size (drop (index * size) (payload bundle))))

pub all_kept : (bs : List Block) → filter (is_kept 0) bs ≡ bs
all_kept [] = refl
all_kept (b ∷ bs) = ap (λ (xs : List Block). b ∷ xs) (all_kept bs)

fragment_length : (bundle : Contents) (size index : ℕ) → length (spelling (fragment_at bundle size index))
    ≡ 2 + (common bundle.primary + length (uint (fragment_flags bundle.primary.flags)) + length (uint (index * size)) + length (uint (length (payload bundle)))) + length (spelled (fragment_at bundle size index).blocks)
unfolding fragment_at
fragment_length bundle size index =
    omega (arith, whole_size (fragment_at bundle size index), fragment_size bundle.primary (record { offset = index * size; total = length (payload bundle) }))

uint_few : (n : ℕ) → n < 2 ^ 32 → length (uint n) ≤ 5
unfolding uint
uint_few n fits = five_at_most 0 n fits

uint_one : (n : ℕ) → n < 24 → length (uint n) ≡ 1
unfolding uint
uint_one n small = head_one 0 n small

uint_some : (n : ℕ) → 1 ≤ length (uint n)
unfolding uint
uint_some n = head_at_least 0 n

-- the payload is shorter than the bundle
pub payload_short : (bundle : Contents) → IsBundle bundle → length (payload bundle) ≤ BUNDLE_LIMIT
unfolding string_size
payload_short bundle is =
    let some = is.some in
    let limit = is.within in
    let changed = payload_changed bundle.blocks [] (omega arith) in
    omega (arith, whole_size bundle, length-string (payload bundle), length-string [], head_one 2 0 (omega arith))

-- A fragment is no longer than the first, or than the whole bundle.
pub later_fits : (bundle : Contents) (size index : ℕ) → IsBundle bundle → index * size ≤ length (payload bundle) → length (spelling (fragment_at bundle size 0)) ≤ BUNDLE_LIMIT → length (spelling (fragment_at bundle size index)) ≤ BUNDLE_LIMIT
later_fits bundle size index is place first =
    let len = length (payload bundle) in
    let short = payload_short bundle is in
    let fits : len < 2 ^ 32 = omega arith in
    let all : length (spelled (filter (is_kept 0) bundle.blocks)) ≡ length (spelled bundle.blocks) = ap (λ (xs : List Block). length (spelled xs)) (all_kept bundle.blocks) in
    let fewer = kept_less (is_kept index) bundle.blocks in
    let own = fragment_length bundle size index in
    let first_length = fragment_length bundle size 0 in
    let blocks = blocks_size bundle size index is in
    let first_blocks = blocks_size bundle size 0 is in
    let piece = length-piece bundle size index in
    let first_piece = length-piece bundle size 0 in
    let zero_at : 0 * size ≡ 0 = omega arith in
    let zero_one : length (uint (0 * size)) ≡ 1 = ap (λ (n : ℕ). length (uint n)) zero_at ∙ uint_one 0 (omega arith) in
    elim (cases_lt (index * size) 24) [
      | inl near ↦ (
          let one = uint_one (index * size) near in
          let grows = string_grows (length (piece_bytes bundle size index)) (length (piece_bytes bundle size 0)) (omega arith) (omega arith) in
          omega arith
          )
      | inr far ↦ (
          let few = uint_few (index * size) (omega arith) in
          let few_total = uint_few len fits in
          let most = uint_at_most (fragment_flags bundle.primary.flags) in
          let some = uint_some bundle.primary.flags in
          let least = whole_at_least bundle.primary in
          let limit = is.within in
          let grows = string_grows (length (piece_bytes bundle size index)) len (omega arith) fits in
          omega (arith, whole_size bundle)
          )
    ]
