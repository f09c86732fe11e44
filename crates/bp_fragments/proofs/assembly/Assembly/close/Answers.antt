use Rattle.bp_fragments.proofs.Finishing.{closed_so, not_closed}
use Rattle.bp_fragments.proofs.assembly.Assembly.close.Goals as goal

pub returns-in-Some : goal.returns-in-Some
returns-in-Some c = rw (← c.self.view_is) (λ pieces took is. closed_so _ pieces c.args.primary c.in-Some.bundle c.in-Some.ensures took is)

pub returns : goal.returns
returns c = rw (← c.self.view_is) (λ pieces took is. not_closed _ pieces c.args.primary c.in-None.ensures took is)
