use Rattle.std.proofs.Common.{◌≡◌, [], take}
use Rattle.std.specs.Prelude.{fold, filter}
use Rattle.std.specs.BTreeSet.{insert_key}
use Rattle.bpsec_asb.specs.Order.{op_cmp}
use Rattle.bpsec_node.specs.Lists.{clear_of}
use Rattle.bpsec_node.proofs.lists.ready_among.Given as goal

abbrev pub invariant-loop-op : goal.invariant-loop-op
invariant-loop-op l = l.ready.keys ≡ fold (insert_key op_cmp) [] (filter (clear_of l.numbers) (take l.op-index l.ops))
