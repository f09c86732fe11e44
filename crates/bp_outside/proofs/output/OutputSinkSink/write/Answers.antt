use Rattle.bp_outside.proofs.output.OutputSinkSink.write.Goals as goal

pub returns-else-well-clause-prefix : goal.returns-else-well-clause-prefix
returns-else-well-clause-prefix g c = (c.write_through-n.result.0, c.write_through-n.ensures.within, rw (← c.self.view_is) c.write_through-n.ensures.bytes)
