use Rattle.std.proofs.Common.{◌≡◌, map, take}
use Rattle.bpsec_facts.specs.View.{facts}
use Rattle.bpsec_secure.specs.Secured.{plain_block}
use Rattle.bpsec_secure.proofs.signing.new_blocks.Given as goal

abbrev pub invariant-loop-item : goal.invariant-loop-item
invariant-loop-item g l = l.new ≡ map (plain_block (facts l.case)) (take l.item-index l.case.items.now)
