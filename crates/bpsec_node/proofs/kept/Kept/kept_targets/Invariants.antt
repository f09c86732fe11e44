use Rattle.std.proofs.Common.{◌≡◌, filter, not, take}
use Rattle.bpsec_asb.specs.Known.{operation}
use Rattle.bpsec_node.specs.Finished.{is_dropped_in}
use Rattle.bpsec_node.specs.Seen.{seen}
use Rattle.bpsec_node.proofs.kept.Kept.kept_targets.Given as goal

abbrev pub invariant-loop-target : goal.invariant-loop-target
invariant-loop-target l = l.kept ≡ filter (λ target. not (is_dropped_in (seen l.self) l.events (operation l.service l.number target))) (take l.target-index l.targets)
