use Rattle.std.proofs.Common.{◌≡◌, map, take}
use Rattle.serde_json.specs.View.{view}
use Rattle.bp_text.specs.Shape.{wholes}
use Rattle.bp_text.proofs.kept.wholes.Given as goal

abbrev pub invariant-loop-value : goal.invariant-loop-value
invariant-loop-value l = l.numbers.items ≡ wholes (map view (take l.value-index l.values))
