use Rattle.std.proofs.Common.{◌≡◌, take}
use Rattle.std.specs.Prelude.{filter}
use Rattle.bpsec_asb.specs.declared.operation.OpId.{OpId}
use Rattle.bpsec_node.specs.Plain.{may_be_covered}
use Rattle.bpsec_node.specs.Site.{block_at}
use Rattle.bpsec_node.proofs.begin.covering.Given as goal

abbrev pub invariant-loop-op : goal.invariant-loop-op
invariant-loop-op l = l.covers ≡ filter (λ (op : OpId). may_be_covered (block_at l.blocks op.target)) (take l.op-index l.ops)
