use Rattle.std.proofs.Common.{◌≡◌, take}
use Rattle.bpsec_facts.specs.Bibs.{left_of}
use Rattle.bpsec_facts.proofs.bibs.left_of.Given as goal

abbrev pub invariant-loop-target : goal.invariant-loop-target
invariant-loop-target l = l.left ≡ left_of l.items l.number (take l.target-index l.targets)
