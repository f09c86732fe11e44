-- `audit`: the findings over a policy or a plan and a key ring, a line each, and how many they are.
use Rattle.std.specs.Prelude.{ℕ, List, [], ◌∷◌, ◌++◌, length, codes}
use Rattle.std.specs.Fmt.{decimal}
use Rattle.std.specs.List.{flat_map}
use Rattle.bpsec_policy.specs.Rules.{Parts}
use Rattle.bpsec_policy.specs.declared.ring.NamedKey.{NamedKey}
use Rattle.bpsec_plan.specs.declared.item.Item.{Item}
use Rattle.bpsec_audit.specs.Findings.{plan_findings, policy_findings}
use Rattle.bpsec_answer.specs.declared.answer.Answer.{Answer}
use Rattle.bpsec_answer.specs.declared.status.Status.{Status}
use Rattle.bpsec_answer.specs.declared.status.Status.TheVariants.{Done, Found}
use Rattle.bpsec_answer.specs.Lines.{line}

abbrev pub count_line : ℕ → List ℕ
count_line n = line (codes "findings=" ++ decimal n)

abbrev pub found_status : List (List ℕ) → Status
found_status [] = Done
found_status (finding ∷ more) = Found

abbrev pub found : List (List ℕ) → Answer
found findings = record {
  status = found_status findings;
  out = flat_map line findings ++ count_line (length findings);
  report = [];
}

abbrev pub policy_audited : Parts → List NamedKey → Answer
policy_audited policy ring = found (policy_findings policy ring)

abbrev pub plan_audited : List Item → List NamedKey → Answer
plan_audited items ring = found (plan_findings items ring)
