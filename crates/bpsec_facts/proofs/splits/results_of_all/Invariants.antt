use Rattle.std.proofs.Common.{◌≡◌, map, take}
use Rattle.bpsec_facts.specs.Left.{results_for}
use Rattle.bpsec_facts.proofs.splits.results_of_all.Given as goal

abbrev pub invariant-loop-target : goal.invariant-loop-target
invariant-loop-target l = l.all ≡ map (results_for l.asb) (take l.target-index l.targets)
