-- Pieces fed one after another, and how long they are.
use Rattle.std.proofs.Common.{◌≡◌, ℕ, ◌+◌, ◌<◌, ◌≤◌, List, length, refl, ap, arith, length-append}
use Rattle.cbor_profile.specs.Put.{byte_string}
use Rattle.bp_crc.specs.Check.{check_bytes}
use Rattle.bp_crc.specs.declared.kind.CheckKind.{CheckKind}
use Rattle.bp_crc.specs.declared.kind.CheckKind.TheVariants.{None, Crc16, Crc32c}
use Rattle.std.specs.declared.option.Option.{Option}
use Rattle.std.specs.declared.option.Option.TheVariants as options
use Rattle.bp_primary.specs.declared.primary.Piece.{Piece}
use Rattle.bp_primary.specs.declared.primary.Primary.{Primary}
use Rattle.bp_crc.specs.Item.{check_item, zeros, check_count, check_type}
use Rattle.bp_primary.specs.Fragment.{fragment_count}
use Rattle.bp_primary.specs.Spelling.{array_with, spelling}

-- the item of a check is as long as that of zeros in its place
same_item : (kind : CheckKind) (bytes : List ℕ) → length (check_item kind (check_bytes kind bytes)) ≡ length (check_item kind (zeros kind))
unfolding byte_string
same_item None bytes = refl
same_item Crc16 bytes = simp length-append
same_item Crc32c bytes = simp length-append

pub length-spelling : (primary : Primary) → length (spelling primary) ≡ length (array_with primary (zeros primary.crc))
unfolding spelling array_with
length-spelling primary = let item = same_item primary.crc (array_with primary (zeros primary.crc)) in simp length-append (omega (arith, item))

few_fragment_items : (fragment : Option Piece) → fragment_count fragment ≤ 2
few_fragment_items options.None = omega arith
few_fragment_items (options.Some piece) = omega arith

few_check_items : (kind : CheckKind) → check_count kind ≤ 1
few_check_items None = omega arith
few_check_items Crc16 = omega arith
few_check_items Crc32c = omega arith

pub at_most_items : (primary : Primary) → 8 + fragment_count primary.fragment + check_count primary.crc ≤ 11
at_most_items primary =
    let fragment = few_fragment_items primary.fragment in let check = few_check_items primary.crc in omega arith

-- small numbers of items, and small check types
pub few_items : (primary : Primary) → 8 + fragment_count primary.fragment + check_count primary.crc < 24
few_items primary = let fragment = few_fragment_items primary.fragment in let check = few_check_items primary.crc in omega arith

pub small_type : (kind : CheckKind) → check_type kind < 24
small_type None = omega arith
small_type Crc16 = omega arith
small_type Crc32c = omega arith
