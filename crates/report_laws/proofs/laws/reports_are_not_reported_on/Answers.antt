use Rattle.report_laws.proofs.Unreported.{unreported}
use Rattle.report_laws.proofs.laws.reports_are_not_reported_on.Goals as goal

pub returns : goal.returns
returns c = λ subject node events discarded time sequence report is.
    unreported subject node events discarded time sequence report is
