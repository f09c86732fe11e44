use Rattle.bpsec_jobs.proofs.reassembly.+gather.Given as goal

abbrev pub decreases-gather : goal.decreases-gather
decreases-gather g l = l.more
