use Rattle.std.proofs.Common.{◌≡◌, map, take}
use Rattle.bpsec_facts.specs.View.{facts}
use Rattle.bpsec_secure.specs.Secured.{sealed_result}
use Rattle.bpsec_secure.proofs.adding.sealed_results.Given as goal

abbrev pub invariant-loop-target : goal.invariant-loop-target
invariant-loop-target l = l.results ≡ map (sealed_result (facts l.case) l.tag_in_body) (take l.target-index l.targets)
