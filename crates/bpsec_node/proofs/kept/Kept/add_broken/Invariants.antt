use Rattle.std.proofs.Common.{◌≡◌, map, filter, fold, take, is_some}
use Rattle.std.specs.BTreeSet.{insert_key}
use Rattle.bpsec_node.specs.Events.{place_cmp}
use Rattle.bpsec_node.specs.Finished.{fault_of, broken_place}
use Rattle.bpsec_node.specs.Seen.{seen}
use Rattle.bpsec_node.proofs.kept.Kept.add_broken.Given as goal

abbrev pub invariant-loop-block : goal.invariant-loop-block
invariant-loop-block l =
    l.places.keys ≡ fold (insert_key place_cmp) l.fn.places.keys (map broken_place (filter (λ block. is_some (fault_of (seen l.self) block)) (take l.block-index l.block-items)))
