use Rattle.bp_fragments.proofs.Covered.{seen_empty}
use Rattle.bp_fragments.proofs.payload.Payload.empty.Goals as goal

pub returns : goal.returns
returns c = seen_empty c.new-2.result c.new.result c.new-2.ensures c.new.ensures
