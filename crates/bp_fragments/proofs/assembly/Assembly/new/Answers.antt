use Rattle.bp_fragments.proofs.Adding.{took_nothing}
use Rattle.bp_fragments.proofs.assembly.Assembly.new.Goals as goal

pub returns : goal.returns
returns c = took_nothing c.empty.result c.empty.ensures
