use Rattle.std.proofs.Common.{◌≡◌, ◌++◌, [], take}
use Rattle.bpsec_audit.specs.Lines.{each_after}
use Rattle.bpsec_audit.specs.Keys.{key_lines}
use Rattle.bpsec_audit.proofs.keys.put_keys.Given as goal

abbrev pub invariant-loop-at : goal.invariant-loop-at
invariant-loop-at g l = l.lines ≡ l.fn.lines ++ each_after (key_lines (g.N.NamesKeys.names l.named_by)) [] (take l.at l.keys)
