use Rattle.bp_bundle.proofs.HeadsAsSpelled.{TokenLaws}
use Rattle.correct_prefix.proofs.FaultyHead.{SealLaws}
use Rattle.correct_prefix.proofs.Ids.{ids_before, ids_cut, ids_faulty}
use Rattle.correct_prefix.proofs.faulty_ids_stand_behind_a_correct_prefix.Goals as goal

pub returns-clause-before : goal.returns-clause-before
returns-clause-before c = λ bytes stop fits e.
    let heads : TokenLaws = record { again = c.tokens_are_read_as_spelled.ensures.again; means = c.tokens_are_read_as_spelled.ensures.means } in
    ids_before heads bytes stop fits e

pub returns-clause-cut : goal.returns-clause-cut
returns-clause-cut c = λ bytes stop fits e early.
    let heads : TokenLaws = record { again = c.tokens_are_read_as_spelled.ensures.again; means = c.tokens_are_read_as_spelled.ensures.means } in
    ids_cut heads bytes stop fits e early

pub returns-clause-with_it : goal.returns-clause-with_it
returns-clause-with_it c = λ bytes stop fits e other.
    let heads : TokenLaws = record { again = c.tokens_are_read_as_spelled.ensures.again; means = c.tokens_are_read_as_spelled.ensures.means } in
    let laws : SealLaws = record {
      laws = record { heads = heads; ids = record { again = c.ids_are_read_as_spelled.ensures.again; means = c.ids_are_read_as_spelled.ensures.means } };
      reads = c.heads_are_read_as_spelled.ensures.again;
      judged = c.heads_are_judged_from_the_left.ensures;
    } in
    ids_faulty laws bytes stop fits e other
