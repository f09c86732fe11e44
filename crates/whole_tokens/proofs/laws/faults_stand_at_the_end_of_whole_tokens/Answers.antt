use Rattle.std.proofs.Common.{subst}
use Rattle.bp_bundle.proofs.HeadsAsSpelled.{TokenLaws}
use Rattle.whole_tokens.proofs.Bundles.{Answers, bundle_answers, input_answers}
use Rattle.whole_tokens.proofs.laws.faults_stand_at_the_end_of_whole_tokens.Goals as goal

pub returns-clause-before : goal.returns-clause-before
returns-clause-before c = λ bytes fault fits e other.
    let laws : TokenLaws = record { again = c.tokens_are_read_as_spelled.ensures.again; means = c.tokens_are_read_as_spelled.ensures.means } in
    (subst (Answers bytes) e (bundle_answers laws bytes fits)).0 other

pub returns-clause-early : goal.returns-clause-early
returns-clause-early c = λ bytes fault fits e early.
    let laws : TokenLaws = record { again = c.tokens_are_read_as_spelled.ensures.again; means = c.tokens_are_read_as_spelled.ensures.means } in
    (subst (Answers bytes) e (bundle_answers laws bytes fits)).1 early

pub returns-clause-whole : goal.returns-clause-whole
returns-clause-whole c = λ bytes bundle after fits e.
    let laws : TokenLaws = record { again = c.tokens_are_read_as_spelled.ensures.again; means = c.tokens_are_read_as_spelled.ensures.means } in
    subst (Answers bytes) e (bundle_answers laws bytes fits)

pub returns-clause-input : goal.returns-clause-input
returns-clause-input c = λ bytes fault fits e other.
    let laws : TokenLaws = record { again = c.tokens_are_read_as_spelled.ensures.again; means = c.tokens_are_read_as_spelled.ensures.means } in
    input_answers laws bytes fault fits e other
