use Rattle.std.proofs.Common.{sym, subst}
use Rattle.std.specs.Str.{IsAscii}
use Rattle.bpsec_policy.proofs.Lawful.{name_ascii}
use Rattle.bpsec_policy.proofs.written.name_value.Goals as goal

pub ascii_value-requires : goal.ascii_value-requires
ascii_value-requires c = subst IsAscii (sym c.as_slice.ensures) (name_ascii c.args.name.now c.requires)
