use Rattle.std.proofs.Common.{◌≡◌, ◌++◌, map, take}
use Rattle.bpsec_facts.specs.Bibs.{remaining}
use Rattle.bpsec_facts.proofs.bibs.add_remaining.Given as goal

abbrev pub invariant-loop-bib : goal.invariant-loop-bib
invariant-loop-bib l = l.bibs ≡ l.fn.bibs ++ map (remaining l.items) (take l.bib-index l.shown)
