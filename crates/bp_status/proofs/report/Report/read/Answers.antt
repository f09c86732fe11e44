use Rattle.std.proofs.Common.{arith}
use Rattle.bp_status.proofs.Reports.{is_meant, is_found}
use Rattle.bp_status.proofs.report.Report.read.Goals as goal

pub returns-clause-means : goal.returns-clause-means
returns-clause-means c = is_meant c.args.body.now c.whole.result (λ i. omega (arith, c.type_inv.body i)) c.whole.ensures

pub returns-clause-found : goal.returns-clause-found
returns-clause-found c = λ report reads. is_found c.args.body.now c.whole.result report c.whole.ensures reads
