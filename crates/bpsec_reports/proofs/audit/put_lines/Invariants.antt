use Rattle.std.proofs.Common.{◌≡◌, ◌++◌, take}
use Rattle.std.specs.List.{flat_map}
use Rattle.bpsec_answer.specs.Lines.{line}
use Rattle.bpsec_reports.proofs.audit.put_lines.Given as goal

abbrev pub invariant-loop-finding : goal.invariant-loop-finding
invariant-loop-finding l = l.out ≡ l.fn.out ++ flat_map line (take l.finding-index l.findings)
