use Rattle.std.proofs.Common.{◌≡◌, take}
use Rattle.bpsec_node.specs.Least.{least_broken}
use Rattle.bpsec_node.proofs.least.least_broken.Given as goal

abbrev pub invariant-loop-one : goal.invariant-loop-one
invariant-loop-one l = l.best ≡ least_broken (take l.one-index l.held)
