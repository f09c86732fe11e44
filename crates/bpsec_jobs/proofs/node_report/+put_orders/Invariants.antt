use Rattle.std.proofs.Common.{length}
use Rattle.bpsec_jobs.proofs.node_report.+put_orders.Given as goal

abbrev pub decreases-put_orders : goal.decreases-put_orders
decreases-put_orders l = length l.done.now
