use Rattle.std.proofs.Common.{◌≡◌, ◌++◌, [], take}
use Rattle.bpsec_audit.specs.Lines.{each_after}
use Rattle.bpsec_audit.specs.Items.{item_lines}
use Rattle.bpsec_audit.proofs.items.put_items.Given as goal

abbrev pub invariant-loop-at : goal.invariant-loop-at
invariant-loop-at l = l.lines ≡ l.fn.lines ++ each_after (item_lines l.ring) [] (take l.at-counter l.items)
