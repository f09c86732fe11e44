use Rattle.std.proofs.Common.{◌≡◌, ◌++◌, take}
use Rattle.std.specs.List.{flat_map}
use Rattle.bpsec_explain.specs.Lines.{pair_line}
use Rattle.bpsec_explain.proofs.security.put_pairs.Given as goal

abbrev pub invariant-loop-pair : goal.invariant-loop-pair
invariant-loop-pair l = l.out ≡ l.fn.out ++ flat_map (pair_line l.name) (take l.pair-index l.pairs)
