use Rattle.std.proofs.Common.{◌∙◌}
use Rattle.bpsec_node.specs.Ring.{at_node, with_ring}
use Rattle.bpsec_node.specs.Verdict.{rule, verdict, step_verdict}
use Rattle.audit_laws.proofs.Keyless.{keyless, without_key}
use Rattle.audit_laws.proofs.Suites.{integrity_needs_key, cipher_needs_key, served_integrity, served_cipher}
use Rattle.audit_laws.proofs.laws.rules_without_a_key_let_nothing_pass.Goals as goal

pub returns-clause-told : goal.returns-clause-told
unfolding at_node with_ring verdict
returns-clause-told c = λ suite bundle policy ring op needs told.
    without_key (at_node suite bundle policy ring) _ op needs
    (c.operations_have_the_keys_of_their_rules.ensures suite bundle policy ring op ∙ keyless ring (rule (at_node suite bundle policy ring) op) told)

pub returns-clause-keyless : goal.returns-clause-keyless
unfolding at_node with_ring verdict
returns-clause-keyless c = λ suite bundle policy ring op needs none.
    without_key (at_node suite bundle policy ring) _ op needs (c.operations_have_the_keys_of_their_rules.ensures suite bundle policy ring op ∙ none)

pub returns-clause-step : goal.returns-clause-step
unfolding at_node with_ring step_verdict
returns-clause-step c = λ suite bundle policy ring op needs none.
    without_key (at_node suite bundle policy ring) _ op needs (c.operations_have_the_keys_of_their_rules.ensures suite bundle policy ring op ∙ none)

pub returns-clause-suite : goal.returns-clause-suite
returns-clause-suite c = record {
  judged = λ context parameters results parts. served_integrity _ _ _ _ (integrity_needs_key parameters results parts);
  checked = λ context parameters results parts body. served_cipher _ _ _ _ (cipher_needs_key parameters results parts body);
}
