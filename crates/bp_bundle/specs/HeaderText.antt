-- What stands in a canonical block before the content of its body (RFC 9171, section 4.3.2).
use Rattle.std.specs.Prelude.{ℕ, ◌+◌, List, ◌++◌}
use Rattle.cbor_profile.specs.Head.{head_spelling}
use Rattle.cbor_profile.specs.Put.{uint, array_head}
use Rattle.bp_crc.specs.Item.{check_type, check_count}
use Rattle.bp_bundle.specs.declared.header.Header.{Header}

unfoldable pub header_text : Header → List ℕ
header_text header =
    array_head (5 + check_count header.crc) ++ uint header.kind ++ uint header.number ++ uint header.flags ++ uint (check_type header.crc)
    ++ head_spelling 2 header.len
