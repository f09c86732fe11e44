use Rattle.bpsec_secure.specs.Usable.{IsUsable}
use Rattle.bpsec_secure.specs.Secured.{seals}
use Rattle.bpsec_facts.proofs.Found.{found}
use Rattle.bpsec_secure.proofs.sealing.usable_item.Goals as goal

pub returns-clause-usable : goal.returns-clause-usable
returns-clause-usable c =
    rw c.sealing_item.ensures (found (IsUsable c.args.case.now.ring.now) (seals c.args.number) c.args.case.now.items.now c.requires)
