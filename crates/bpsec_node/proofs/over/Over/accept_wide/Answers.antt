use Rattle.std.proofs.Common.{◌≡◌, true, Some, sym, ◌∙◌, ap}
use Rattle.std.specs.Result.{result_ok}
use Rattle.std.specs.Option.{option_copied}
use Rattle.bpsec_policy.specs.declared.rule.Rule.{Rule}
use Rattle.bpsec_node.specs.Situation.{meaning}
use Rattle.bpsec_node.specs.Site.{asb_in, is_narrow, parameters_of, rule_over}
use Rattle.bpsec_node.specs.Over.{site_in}
use Rattle.bpsec_node.proofs.Narrow.{narrow_is_not_right}
use Rattle.bpsec_node.proofs.over.Over.accept_wide.Goals as goal

pub returns-then-has_narrow_scope-clause-body : goal.returns-then-has_narrow_scope-clause-body
returns-then-has_narrow_scope-clause-body g c =
    let suite = meaning g.S.Suite.scope g.S.Suite.judged g.S.Suite.checked g.S.Suite.opened in
    let read : asb_in (site_in c.args.self.now).security ≡ Some c.args.self.now.asb.now = ap result_ok c.requires.read in
    let narrow : is_narrow (rule_over c.args.policy.now (site_in c.args.self.now) c.args.self.now.op).least_scope (suite.scope c.args.self.now.asb.now.context (parameters_of c.args.self.now.asb.now)) ≡ true =
    ap (λ (r : Rule). is_narrow r.least_scope (suite.scope c.args.self.now.asb.now.context (parameters_of c.args.self.now.asb.now))) (sym c.rule.ensures) ∙ (sym c.has_narrow_scope.ensures ∙ c.if-has_narrow_scope.true) in
    rw (narrow_is_not_right suite c.args.policy.now (site_in c.args.self.now) c.args.self.now.op (option_copied c.args.key) c.args.self.now.asb.now read narrow) c.check.ensures.body
