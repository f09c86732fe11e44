use Rattle.std.proofs.Common.{◌≡◌, take}
use Rattle.bpsec_asb.specs.Known.{operation}
use Rattle.bpsec_node.specs.Finished.{is_dropped_in}
use Rattle.bpsec_node.specs.Outcome.{results_without}
use Rattle.bpsec_node.specs.Seen.{seen}
use Rattle.bpsec_node.proofs.kept.Kept.kept_results.Given as goal

abbrev pub invariant-loop-i : goal.invariant-loop-i
invariant-loop-i l = l.kept ≡ results_without (λ target. is_dropped_in (seen l.self) l.events (operation l.service l.number target)) (take l.i l.targets) l.results
