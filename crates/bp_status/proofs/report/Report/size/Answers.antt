use Rattle.std.proofs.Common.{arith}
use Rattle.bp_status.proofs.Sizes.{length-spelling}
use Rattle.bp_status.proofs.report.Report.size.Goals as goal

pub returns-clause-size : goal.returns-clause-size
returns-clause-size c = rw (length-spelling c.args.self.now) (omega arith)
