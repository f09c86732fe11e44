use Rattle.std.proofs.Common.{◌≡◌, ◌++◌, map, take}
use Rattle.std.specs.List.{flat_map}
use Rattle.bpsec_facts.specs.Bibs.{remaining, planned_bib}
use Rattle.bpsec_facts.proofs.bibs.result_bibs.Given as goal

abbrev pub invariant-loop-item : goal.invariant-loop-item
invariant-loop-item l = l.bibs ≡ map (remaining l.items) l.shown ++ flat_map planned_bib (take l.item-index l.items)
