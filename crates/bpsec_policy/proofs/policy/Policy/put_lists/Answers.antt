use Rattle.std.proofs.Common.{◌≡◌, true, sym, subst}
use Rattle.std.specs.List.{AllByRecursion}
use Rattle.bpsec_policy.specs.declared.rule.RuleAt.{RuleAt}
use Rattle.bpsec_policy.specs.declared.rule.Requirement.{Requirement}
use Rattle.bpsec_policy.specs.Policy.{is_rule, is_requirement}
use Rattle.bpsec_policy.proofs.Lawful.{policy_parts}
use Rattle.bpsec_policy.proofs.policy.Policy.put_lists.Goals as goal

pub array_of-requires : goal.array_of-requires
array_of-requires c = subst (AllByRecursion (λ (r : RuleAt). is_rule r ≡ true)) (sym c.items.ensures) (policy_parts _ c.self.invariant).1

pub array_of-requires-2 : goal.array_of-requires-2
array_of-requires-2 c = subst (AllByRecursion (λ (r : Requirement). is_requirement r ≡ true)) (sym c.items-2.ensures) (policy_parts _ c.self.invariant).2
