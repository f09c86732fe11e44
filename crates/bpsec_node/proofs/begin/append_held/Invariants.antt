use Rattle.std.proofs.Common.{◌≡◌, ◌++◌, map, take}
use Rattle.bpsec_asb.specs.Known.{operation}
use Rattle.bpsec_node.proofs.begin.append_held.Given as goal

abbrev pub invariant-loop-target : goal.invariant-loop-target
invariant-loop-target l = l.ops ≡ l.fn.ops ++ map (operation l.service l.held.number) (take l.target-index l.target-items)
