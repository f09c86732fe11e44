use Rattle.bp_fragments.proofs.Covered.{whole_seen}
use Rattle.bp_fragments.proofs.payload.Payload.into_bytes.Goals as goal

pub returns : goal.returns
returns c = rw (← c.self.view_is) (whole_seen c.self.inside.covered c.self.inside.bytes)
