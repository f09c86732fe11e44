use Rattle.std.proofs.Common.{◌≡◌, ◌++◌, map, take}
use Rattle.bpsec_asb.specs.Known.{operation}
use Rattle.bpsec_asb.specs.declared.operation.Service.TheVariants.{Bib}
use Rattle.bpsec_node.proofs.lists.append_ops.Given as goal

abbrev pub invariant-loop-target : goal.invariant-loop-target
invariant-loop-target l = l.ops ≡ l.fn.ops ++ map (operation Bib l.block) (take l.target-index l.targets)
