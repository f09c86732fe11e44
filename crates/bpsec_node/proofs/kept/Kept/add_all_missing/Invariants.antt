use Rattle.std.proofs.Common.{◌≡◌, ◌++◌, map, fold, take}
use Rattle.std.specs.List.{flat_map}
use Rattle.std.specs.BTreeSet.{insert_key}
use Rattle.bpsec_asb.specs.declared.operation.Service.TheVariants.{Bib, Bcb}
use Rattle.bpsec_node.specs.Events.{place_cmp}
use Rattle.bpsec_node.specs.Finished.{missing_place}
use Rattle.bpsec_node.specs.Seen.{seen}
use Rattle.bpsec_node.proofs.kept.Kept.add_all_missing.Given as goal

abbrev pub invariant-loop-block : goal.invariant-loop-block
invariant-loop-block l =
    l.places.keys ≡ fold (insert_key place_cmp) l.fn.places.keys
    (flat_map (λ number. missing_place (seen l.self) number Bib ++ missing_place (seen l.self) number Bcb) (map (λ block. block.number) (take l.block-index l.block-items)))
