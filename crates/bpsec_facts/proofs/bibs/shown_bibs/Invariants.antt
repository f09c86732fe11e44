use Rattle.std.proofs.Common.{◌≡◌, take}
use Rattle.std.specs.List.{flat_map}
use Rattle.bpsec_facts.specs.Bibs.{shown_in}
use Rattle.bpsec_facts.proofs.bibs.shown_bibs.Given as goal

abbrev pub invariant-loop-block : goal.invariant-loop-block
invariant-loop-block g l = l.shown ≡ flat_map (shown_in l.blocks l.ops) (take l.block-index l.blocks)
