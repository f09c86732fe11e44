use Rattle.bpsec_audit.proofs.Dead.{dead_never}
use Rattle.bpsec_audit.proofs.laws.dead_rules_never_decide.Goals as goal

pub returns : goal.returns
returns c = dead_never
