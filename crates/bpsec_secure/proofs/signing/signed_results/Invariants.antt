use Rattle.std.proofs.Common.{◌≡◌, map, take}
use Rattle.bpsec_facts.specs.View.{facts}
use Rattle.bpsec_secure.specs.Secured.{signed_result}
use Rattle.bpsec_secure.proofs.signing.signed_results.Given as goal

abbrev pub invariant-loop-target : goal.invariant-loop-target
invariant-loop-target g l = l.results ≡ map (signed_result (facts l.case) l.item l.cover) (take l.target-index l.cover.targets)
