use Rattle.bpsec_audit.specs.Rules.{rule_lines}
use Rattle.bpsec_audit.proofs.Each.{told_none, told_more}
use Rattle.bpsec_audit.proofs.findings.put_rules.Goals as goal

pub loop-at-init : goal.loop-at-init
loop-at-init c = told_none (rule_lines c.args.ring.now) c.args.lines.now

pub loop-at-preserved : goal.loop-at-preserved
loop-at-preserved c =
    told_more (rule_lines c.args.ring.now) c.args.lines.now c.loop-at.lines c.put_rule.new.lines c.args.rules.now c.loop-at.at c.index-rules-at.result c.loop-at-test.true c.index-rules-at.is c.loop-at.invariant c.in_ok-put_rule.ensures
