use Rattle.std.proofs.Common.{take}
use Rattle.bpsec_asb.specs.Operations.{BodiesAreBytes}
use Rattle.bpsec_node.proofs.close.bodies_are_bytes.Given as goal

abbrev pub invariant-loop-block : goal.invariant-loop-block
invariant-loop-block l = BodiesAreBytes (take l.block-index l.blocks)
