use Rattle.std.proofs.Common.{◌≡◌, ◌++◌, take}
use Rattle.bpsec_node.specs.Least.{ops_of}
use Rattle.bpsec_node.proofs.begin.append_all.Given as goal

abbrev pub invariant-loop-one : goal.invariant-loop-one
invariant-loop-one l = l.ops ≡ l.fn.ops ++ ops_of l.service (take l.one-index l.held)
