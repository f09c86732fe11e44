-- How long a header of a covered record is.
use Rattle.std.proofs.Common.{◌≤◌, length, arith, length-append}
use Rattle.std.specs.Prelude.{Some}
use Rattle.cbor_profile.proofs.Sizes.{uint_at_most}
use Rattle.bpsec_scope.specs.declared.header.Header.{Header}
use Rattle.bpsec_scope.specs.Covered.{assigned, header_items}

pub header_is_short : (header : Header) → length (header_items (Some (assigned header))) ≤ 27
header_is_short header =
    let kind = uint_at_most (assigned header).kind in
    let number = uint_at_most (assigned header).number in
    let flags = uint_at_most (assigned header).flags in
    simp length-append (omega arith)
