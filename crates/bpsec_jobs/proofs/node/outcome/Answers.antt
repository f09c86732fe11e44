use Rattle.std.proofs.Common.{◌≡◌, ◌∙◌, ap}
use Rattle.bpsec_node.specs.Ring.{at_node}
use Rattle.bpsec_jobs.specs.Noded.{contexts, picked_by}
use Rattle.bpsec_jobs.proofs.SessionIsPicked.{end_picked}
use Rattle.bpsec_jobs.proofs.node.outcome.Goals as goal

pub returns-in-Ok : goal.returns-in-Ok
unfolding contexts
returns-in-Ok c =
    let is = end_picked contexts c.args.session c.args.ring.now _ c.requires _ c.in-Ok.ensures.ok in
    is ∙ ap (picked_by (at_node contexts c.args.session.received c.args.session.policy c.args.ring.now)) c.new-digits.ensures
