use Rattle.bpsec_plan.specs.Items.{is_item}
use Rattle.bpsec_plan.proofs.Plans.{item_means, plan_means}
use Rattle.bpsec_plan.proofs.plan.Plan.from_json.Goals as goal

pub invariant_of-result : goal.invariant_of-result
invariant_of-result c =
    plan_means (λ ds xs e. c.names_stand_once.ensures.all 1 0 _ ds xs e) (λ ds xs e. c.entries_are_alike.ensures.pass 1 0 _ ds xs is_item item_means e) _ _ c.in-Ok-items_of.ensures
