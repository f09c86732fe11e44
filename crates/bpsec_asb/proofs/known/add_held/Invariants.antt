use Rattle.std.proofs.Common.{◌≡◌, map, take}
use Rattle.std.specs.Prelude.{fold}
use Rattle.std.specs.BTreeSet.{insert_key}
use Rattle.bpsec_asb.specs.Order.{op_cmp}
use Rattle.bpsec_asb.specs.Known.{operation}
use Rattle.bpsec_asb.proofs.known.add_held.Given as goal

abbrev pub invariant-loop-target : goal.invariant-loop-target
invariant-loop-target l =
    l.ops.keys ≡ fold (insert_key op_cmp) l.fn.ops.keys (map (operation l.service l.block.number) (take l.target-index l.target-items))
