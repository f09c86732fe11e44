-- A scope that is too narrow.
use Rattle.std.proofs.Common.{◌≡◌, ℕ, Bool, true, false, List, Option, Some, refl, ap, ◌∙◌}
use Rattle.bpsec_asb.specs.declared.asb.Asb.{Asb}
use Rattle.bpsec_asb.specs.declared.operation.OpId.{OpId}
use Rattle.bpsec_context.specs.declared.judgement.Judgement.{Judgement}
use Rattle.bpsec_context.specs.declared.judgement.Judgement.TheVariants.{Right, Wrong, Misset}
use Rattle.bpsec_policy.specs.Rules as policies
use Rattle.bpsec_node.specs.Situation.{Meaning}
use Rattle.bpsec_node.specs.Site.{Site, asb_in, parameters_of, is_narrow, unless_narrow, suite_judgement, rule_over, judge_by, judge_over}
use Rattle.bpsec_node.specs.Plain.{is_right}

not_right : (narrow : Bool) (judged : Judgement) → narrow ≡ true → is_right (unless_narrow narrow judged) ≡ false
not_right true Right is = refl
not_right true Wrong is = refl
not_right narrow (Misset reason) is = refl
not_right false Right is = absurd cc
not_right false Wrong is = absurd cc

pub narrow_is_not_right : (suite : Meaning) (policy : policies.Parts) (site : Site) (op : OpId) (key : Option (List ℕ)) (asb : Asb) → asb_in site.security ≡ Some asb
    → is_narrow (rule_over policy site op).least_scope (suite.scope asb.context (parameters_of asb)) ≡ true → is_right (judge_over suite policy site op key) ≡ false
unfolding judge_over
narrow_is_not_right suite policy site op key asb is narrow =
    ap (λ (o : Option Asb). is_right (judge_by suite (rule_over policy site op).least_scope site op key o)) is
    ∙ not_right (is_narrow (rule_over policy site op).least_scope (suite.scope asb.context (parameters_of asb))) (suite_judgement suite site op op.service key asb) narrow
