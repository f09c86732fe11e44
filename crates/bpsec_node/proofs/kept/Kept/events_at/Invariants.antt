use Rattle.std.proofs.Common.{◌≡◌, map, take}
use Rattle.bpsec_node.specs.Finished.{event_in}
use Rattle.bpsec_node.specs.Seen.{seen}
use Rattle.bpsec_node.proofs.kept.Kept.events_at.Given as goal

abbrev pub invariant-loop-place : goal.invariant-loop-place
invariant-loop-place l = l.events ≡ map (event_in (seen l.self)) (take l.place-index l.places)
