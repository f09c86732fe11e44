use Rattle.std.proofs.Common.{sym, ◌∙◌}
use Rattle.bp_crc.proofs.Register.{register_of-none}
use Rattle.bp_crc.proofs.value.Crc.new.Goals as goal

pub returns : goal.returns
returns g c = c.ones.ensures ∙ sym (register_of-none g.row.BITS)
