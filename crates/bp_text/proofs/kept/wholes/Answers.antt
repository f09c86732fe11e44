use Rattle.std.proofs.Common.{map, take, arith}
use Rattle.std.proofs.lemmas.List.{map_more}
use Rattle.serde_json.specs.View.{view}
use Rattle.bp_text.proofs.Lists.{wholes-append}
use Rattle.bp_text.proofs.kept.wholes.Goals as goal

pub loop-value-preserved : goal.loop-value-preserved
loop-value-preserved c =
    let values = c.args.values.now in
    let i = c.loop-value.value-index in
    let value = c.value-item.result in
    rw (map_more view values i value (omega arith), ← c.value-item.is, wholes-append (map view (take i values)) (view value), ← c.loop-value.invariant) c.in_ok-push_whole.ensures
