use Rattle.std.proofs.Common.{◌≡◌, ◌++◌, map, take}
use Rattle.std.specs.List.{flat_map}
use Rattle.bpsec_answer.specs.Lines.{line}
use Rattle.bpsec_command.proofs.said.put_lines.Given as goal

abbrev pub invariant-loop-text : goal.invariant-loop-text
invariant-loop-text l = l.out ≡ l.fn.out ++ flat_map line (map (λ text. text.now) (take l.text-index l.lines))
