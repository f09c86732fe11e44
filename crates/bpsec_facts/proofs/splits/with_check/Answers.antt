use Rattle.std.proofs.Common.{◌≡◌, is_some, ap}
use Rattle.std.proofs.Math.Bool.{Bool-set}
use Rattle.bp_crc.specs.declared.kind.CheckKind.{CheckKind}
use Rattle.bp_primary.specs.Flags.{is_fragment}
use Rattle.bp_primary.specs.declared.primary.Primary.{Primary}
use Rattle.bpsec_facts.proofs.splits.with_check.Goals as goal

abbrev crc_of : (primary : Primary) → CheckKind → is_some primary.fragment ≡ is_fragment primary.flags → Primary
crc_of primary crc p = record { flags = primary.flags; crc = crc; destination = primary.destination; source = primary.source; report_to = primary.report_to; created = primary.created; sequence = primary.sequence; lifetime = primary.lifetime; fragment = primary.fragment; fragmented = p }

pub returns : goal.returns
returns c = ap (crc_of c.args.primary c.args.crc) (Bool-set _ _ _ _)
