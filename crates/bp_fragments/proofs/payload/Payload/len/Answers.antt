use Rattle.std.proofs.Common.{sym, ◌∙◌}
use Rattle.bp_fragments.proofs.Covered.{length-seen}
use Rattle.bp_fragments.proofs.payload.Payload.len.Goals as goal

pub returns : goal.returns
returns c = rw (← c.self.view_is) (c.len.ensures ∙ sym (length-seen c.self.inside.covered c.self.inside.bytes))
