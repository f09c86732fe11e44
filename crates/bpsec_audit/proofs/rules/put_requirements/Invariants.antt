use Rattle.std.proofs.Common.{◌≡◌, ◌++◌, take}
use Rattle.std.specs.List.{flat_map}
use Rattle.bpsec_audit.specs.Rules.{requirement_lines}
use Rattle.bpsec_audit.proofs.rules.put_requirements.Given as goal

abbrev pub invariant-loop-requirement : goal.invariant-loop-requirement
invariant-loop-requirement l = l.lines ≡ l.fn.lines ++ flat_map requirement_lines (take l.requirement-index l.required)
