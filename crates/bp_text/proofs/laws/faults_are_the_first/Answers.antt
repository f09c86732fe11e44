use Rattle.bp_text.proofs.EntryNames.{first_fault}
use Rattle.bp_text.proofs.laws.faults_are_the_first.Goals as goal

pub returns : goal.returns
returns g c = λ version index taken ds fault e. first_fault (g.E.Entry.reads version) index taken ds fault e
