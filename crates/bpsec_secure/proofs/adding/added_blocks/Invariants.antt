use Rattle.std.proofs.Common.{◌≡◌, map, take}
use Rattle.bpsec_facts.specs.View.{facts}
use Rattle.bpsec_secure.specs.Secured.{added}
use Rattle.bpsec_secure.proofs.adding.added_blocks.Given as goal

abbrev pub invariant-loop-i : goal.invariant-loop-i
invariant-loop-i l = l.new ≡ map (added (facts l.case)) (take l.i l.case.items.now)
