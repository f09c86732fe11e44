-- The complement of the register is the check.
use Rattle.std.proofs.Common.{sym, ◌∙◌}
use Rattle.bp_crc.proofs.Register.{check-register_of}
use Rattle.bp_crc.proofs.value.Crc.finish.Goals as goal

pub returns-clause-value : goal.returns-clause-value
returns-clause-value g c = λ fed stands. rw (c.self.view_is ∙ stands, c.ones.ensures) (sym (check-register_of g.row.BITS fed))
