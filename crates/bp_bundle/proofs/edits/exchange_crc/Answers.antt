use Rattle.std.proofs.Common.{◌≡◌, List, is_some, ap, rules}
use Rattle.std.proofs.Math.Bool.{Bool-set}
use Rattle.bp_crc.specs.declared.kind.CheckKind.{CheckKind}
use Rattle.bp_primary.specs.Flags.{is_fragment}
use Rattle.bp_primary.specs.declared.primary.Primary.{Primary}
use Rattle.bp_blocks.specs.declared.block.Block.{Block}
use Rattle.bp_bundle.specs.Shape.{Contents}
use Rattle.bp_bundle.specs.Edits.{with_crc}
use Rattle.bp_bundle.proofs.edits.exchange_crc.Goals as goal

abbrev crc_of : (primary : Primary) → CheckKind → List Block → is_some primary.fragment ≡ is_fragment primary.flags → Contents
crc_of primary crc blocks p = record { primary = record { flags = primary.flags; crc = crc; destination = primary.destination; source = primary.source; report_to = primary.report_to; created = primary.created; sequence = primary.sequence; lifetime = primary.lifetime; fragment = primary.fragment; fragmented = p }; blocks = blocks }

pub returns-then-number-eq0 : goal.returns-then-number-eq0
returns-then-number-eq0 c =
    rw c.if-number-eq0.true (ap (crc_of c.args.primary.now c.args.crc c.args.blocks.now) (Bool-set _ _ _ _))
