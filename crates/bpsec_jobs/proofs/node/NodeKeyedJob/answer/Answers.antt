use Rattle.bpsec_jobs.proofs.node.NodeKeyedJob.answer.Goals as goal

pub returns-clause-is : goal.returns-clause-is
returns-clause-is c = c.begin_refused.ensures.is c.args.bundle _ c.in-Err.ensures.fault
