-- The lines that explain a bundle. They are this project's own.
use Rattle.std.specs.Prelude.{ℕ, Bool, true, false, ◌==◌, ◌&&◌, ◌||◌, not, if◌then◌else◌, List, [], ◌++◌, length, Option, Some, None, Result, Ok, Err, codes}
use Rattle.std.specs.List.{flat_map, list_any, zip}
use Rattle.hex.specs.Hex.{encode_lower}
use Rattle.cbor_profile.specs.declared.fault.Fault.{Fault}
use Rattle.bp_crc.specs.Item.{check_type}
use Rattle.bp_eid.specs.EndpointId.{text_form}
use Rattle.bp_primary.specs.declared.primary.Primary.{Primary}
use Rattle.bp_primary.specs.declared.primary.Piece.{Piece}
use Rattle.bp_blocks.specs.declared.block.Block.{Block}
use Rattle.bp_bundle.specs.Shape.{Contents}
use Rattle.bpsec_asb.specs.declared.asb.Pair.{Pair}
use Rattle.bpsec_asb.specs.declared.asb.Asb.{Asb}
use Rattle.bpsec_asb.specs.declared.operation.Service.{Service}
use Rattle.bpsec_asb.specs.declared.operation.Service.TheVariants.{Bib, Bcb}
use Rattle.bpsec_asb.specs.declared.operation.OpId.{OpId}
use Rattle.bpsec_asb.specs.Reading.{read_body}
use Rattle.bpsec_asb.specs.Known.{known, is_covered}
use Rattle.bpsec_explain.specs.Texts.{newline, number, signed, flags_item, service_name, fault_line}
use Rattle.bpsec_explain.specs.Bodies.{previous_node_line, age_line, hops_line}
use Rattle.bpsec_explain.specs.Covers.{covers, parameters_of}

-- ---- the primary block (RFC 9171, section 4.3.1)

unfoldable pub nodes : Primary → List ℕ
nodes primary = codes " to=" ++ (text_form primary.destination ++ (codes " from=" ++ (text_form primary.source ++ (codes " report=" ++ text_form primary.report_to))))

unfoldable pub times : Primary → List ℕ
times primary = number (codes " created=") primary.created ++ (number (codes " sequence=") primary.sequence ++ number (codes " lifetime=") primary.lifetime)

abbrev pub piece : Option Piece → List ℕ
piece None = []
piece (Some p) = number (codes " offset=") p.offset ++ number (codes " total=") p.total

unfoldable pub primary_line : Primary → List ℕ
primary_line primary =
    codes "primary" ++ (flags_item primary.flags ++ (number (codes " check=") (check_type primary.crc) ++ (nodes primary ++ (times primary ++ (piece primary.fragment ++ newline)))))

-- ---- canonical blocks (section 4.3.2)

unfoldable pub block_line : Block → List ℕ
block_line block =
    number (codes "block ") block.number ++ (number (codes " type=") block.kind ++ (flags_item block.flags
    ++ (number (codes " check=") (check_type block.crc) ++ (number (codes " length=") (length block.body) ++ newline))))

-- ---- security blocks (RFC 9172, section 3.6)

unfoldable pub pair_line : List ℕ → Pair → List ℕ
pair_line name p = number name p.id ++ (codes " value=" ++ (encode_lower p.value ++ newline))

abbrev pub covers_item : Option (ℕ × List ℕ) → List ℕ
covers_item None = codes " scope=- covers=-"
covers_item (Some c) = number (codes " scope=") c.0 ++ (codes " covers=" ++ encode_lower c.1)

unfoldable pub op_line : Contents → Service → Block → Asb → ℕ → List ℕ
op_line bundle service block asb target = codes "op " ++ (service_name service ++ (number (codes " target=") target ++ (covers_item (covers bundle service block asb target) ++ newline)))

-- an operation, and its results
abbrev pub op_lines : Contents → Service → Block → Asb → ℕ × List Pair → List ℕ
op_lines bundle service block asb op = op_line bundle service block asb op.0 ++ flat_map (pair_line (codes "result id=")) op.1

unfoldable pub asb_line : Asb → List ℕ
asb_line asb = signed (codes "asb context=") asb.context ++ (number (codes " flags=") asb.flags ++ (codes " source=" ++ (text_form asb.source ++ newline)))

unfoldable pub asb_lines : Contents → Service → Block → Asb → List ℕ
asb_lines bundle service block asb =
    asb_line asb ++ (flat_map (pair_line (codes "parameter id=")) (parameters_of asb.parameters) ++ flat_map (op_lines bundle service block asb) (zip asb.targets asb.results))

abbrev pub security_lines : Contents → Service → Block → Result Asb Fault → List ℕ
security_lines bundle service block (Ok asb) = asb_lines bundle service block asb
security_lines bundle service block (Err fault) = fault_line fault

-- ---- the lines of a block

-- what is told of a body that is covered
abbrev pub hidden_lines : ℕ → List ℕ
hidden_lines kind = if (kind == 6) || ((kind == 7) || ((kind == 10) || (kind == 11))) then codes "hidden" ++ newline else []

-- what is told of one that isn't
unfoldable pub body_lines : Contents → Block → List ℕ
body_lines bundle block =
    if block.kind == 6 then previous_node_line block.body
    else if block.kind == 7 then age_line block.body
    else if block.kind == 10 then hops_line block.body
    else if block.kind == 11 then security_lines bundle Bib block (read_body block.body)
    else if block.kind == 12 then security_lines bundle Bcb block (read_body block.body)
    else []

unfoldable pub block_lines : Contents → List OpId → Block → List ℕ
block_lines bundle ops block = block_line block ++ (if is_covered bundle.blocks ops block.number then hidden_lines block.kind else body_lines bundle block)

-- ---- notes

-- a known bib operation targets the primary block
abbrev pub is_bib : Service → Bool
is_bib Bib = true
is_bib Bcb = false

abbrev pub has_primary_check : Primary → List OpId → Bool
has_primary_check primary ops = not (check_type primary.crc == 0) || list_any (λ op. is_bib op.service && op.target == 0) ops

abbrev pub tells_age : Primary → List Block → Bool
tells_age primary blocks = not (primary.created == 0) || list_any (λ block. block.kind == 7) blocks

-- The primary block has neither a check nor an integrity operation (RFC 9171, section 4.3.1). Neither the creation time nor an
-- age block tells the age (section 4.4.2).
unfoldable pub notes : Contents → List OpId → List ℕ
notes bundle ops =
    (if has_primary_check bundle.primary ops then [] else codes "note no-primary-check" ++ newline)
    ++ (if tells_age bundle.primary bundle.blocks then [] else codes "note no-age" ++ newline)

-- ---- the whole

unfoldable pub lines : Contents → List OpId → List ℕ
lines bundle ops = primary_line bundle.primary ++ (flat_map (block_lines bundle ops) bundle.blocks ++ notes bundle ops)

-- The explanation of a bundle.
abbrev pub explanation : Contents → List ℕ
explanation bundle = lines bundle (known bundle.blocks)
