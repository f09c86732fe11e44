use Rattle.std.proofs.Common.{◌≡◌, map, fold, take}
use Rattle.std.specs.BTreeSet.{insert_key}
use Rattle.bpsec_node.specs.Events.{place_cmp, place_of}
use Rattle.bpsec_node.proofs.kept_events.add_places.Given as goal

abbrev pub invariant-loop-op : goal.invariant-loop-op
invariant-loop-op l = l.places.keys ≡ fold (insert_key place_cmp) l.fn.places.keys (map place_of (take l.op-index l.ops))
