use Rattle.bpsec_asb.proofs.Dropped.{IsSecurityBlock-remove}
use Rattle.bpsec_asb.proofs.asb.Asb.drop_operation.Goals as goal

pub returns-clause-block : goal.returns-clause-block
returns-clause-block c = λ fits. rw (c.remove.ensures.rest, c.remove-2.ensures.rest) (IsSecurityBlock-remove c.args.self.now c.args.index c.requires.several c.requires.within fits)
