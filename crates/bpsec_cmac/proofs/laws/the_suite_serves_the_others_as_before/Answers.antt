use Rattle.std.proofs.Common.{refl}
use Rattle.std.specs.Prelude.{negsuc}
use Rattle.bpsec_cmac.proofs.SuiteLemmas.{not_further}
use Rattle.bpsec_cmac.proofs.laws.the_suite_serves_the_others_as_before.Goals as goal

pub returns-clause-service : goal.returns-clause-service
returns-clause-service c = λ context other. rw (not_further context (negsuc 0) other) refl

pub returns-clause-joined : goal.returns-clause-joined
returns-clause-joined c = λ context other. rw (not_further context (negsuc 0) other) refl

pub returns-clause-scope : goal.returns-clause-scope
returns-clause-scope c = λ context parameters other. rw (not_further context (negsuc 0) other) refl

pub returns-clause-judged : goal.returns-clause-judged
returns-clause-judged c = λ context key parameters results parts other. rw (not_further context (negsuc 0) other) refl

pub returns-clause-signed : goal.returns-clause-signed
returns-clause-signed c = λ context key parameters parts other. rw (not_further context (negsuc 0) other) refl

pub returns-clause-checked : goal.returns-clause-checked
returns-clause-checked c = λ context key parameters results parts body other. rw (not_further context (negsuc 0) other) refl

pub returns-clause-opened : goal.returns-clause-opened
returns-clause-opened c = λ context key parameters results parts body other. rw (not_further context (negsuc 0) other) refl

pub returns-clause-sealed : goal.returns-clause-sealed
returns-clause-sealed c = λ context key parameters parts body other. rw (not_further context (negsuc 0) other) refl
