use Rattle.report_laws.proofs.Deciding.{discarded_reasoned}
use Rattle.report_laws.proofs.laws.deletions_have_a_reason.Goals as goal

pub returns : goal.returns
returns c = λ s none. discarded_reasoned s none
