use Rattle.std.proofs.Common.{◌≡◌, ◌==◌, ◌&&◌, map, take}
use Rattle.std.specs.Prelude.{filter}
use Rattle.bpsec_asb.specs.declared.operation.OpId.{OpId}
use Rattle.bpsec_node.specs.Least.{least_of, is_other}
use Rattle.bpsec_node.proofs.least.least_block.Given as goal

abbrev pub invariant-loop-op : goal.invariant-loop-op
invariant-loop-op l = l.best ≡ least_of (map (λ (o : OpId). o.block) (filter (λ o. o.target == l.target && is_other l.other o.block) (take l.op-index l.covers)))
