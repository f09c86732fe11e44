use Rattle.bpsec_node.proofs.Picked.{picks_legal}
use Rattle.bpsec_node.proofs.laws.picks_are_legal.Goals as goal

pub returns : goal.returns
returns g c = λ s most done chooser legal. picks_legal g.C.Chooser.answer g.C.Chooser.after s most done chooser legal
