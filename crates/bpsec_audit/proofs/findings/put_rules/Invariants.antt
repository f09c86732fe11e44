use Rattle.std.proofs.Common.{◌≡◌, ◌++◌, [], take}
use Rattle.bpsec_audit.specs.Lines.{each_after}
use Rattle.bpsec_audit.specs.Rules.{rule_lines}
use Rattle.bpsec_audit.proofs.findings.put_rules.Given as goal

abbrev pub invariant-loop-at : goal.invariant-loop-at
invariant-loop-at l = l.lines ≡ l.fn.lines ++ each_after (rule_lines l.ring) [] (take l.at l.rules)
