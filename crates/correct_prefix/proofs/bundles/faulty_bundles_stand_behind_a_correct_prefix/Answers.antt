use Rattle.bp_bundle.proofs.HeadsAsSpelled.{TokenLaws}
use Rattle.bp_bundle.proofs.ReadPrimaryIsSpelled.{Laws}
use Rattle.correct_prefix.proofs.BundleStopsBehindPrefix.{correct_before, cut_short, bundle_unlimited}
use Rattle.correct_prefix.proofs.FaultyHead.{SealLaws}
use Rattle.correct_prefix.proofs.FaultyBundle.{faulty}
use Rattle.correct_prefix.proofs.bundles.faulty_bundles_stand_behind_a_correct_prefix.Goals as goal

pub returns-clause-before : goal.returns-clause-before
returns-clause-before c = λ bytes fault fits e other.
    let heads : TokenLaws = record { again = c.tokens_are_read_as_spelled.ensures.again; means = c.tokens_are_read_as_spelled.ensures.means } in
    let laws : Laws = record { heads = heads; ids = record { again = c.ids_are_read_as_spelled.ensures.again; means = c.ids_are_read_as_spelled.ensures.means } } in
    correct_before laws bytes fault fits e other

pub returns-clause-cut : goal.returns-clause-cut
returns-clause-cut c = λ bytes fault fits e early.
    let heads : TokenLaws = record { again = c.tokens_are_read_as_spelled.ensures.again; means = c.tokens_are_read_as_spelled.ensures.means } in
    let laws : Laws = record { heads = heads; ids = record { again = c.ids_are_read_as_spelled.ensures.again; means = c.ids_are_read_as_spelled.ensures.means } } in
    cut_short laws bytes fault fits e early

pub returns-clause-with_it : goal.returns-clause-with_it
returns-clause-with_it c = λ bytes fault fits e other.
    let heads : TokenLaws = record { again = c.tokens_are_read_as_spelled.ensures.again; means = c.tokens_are_read_as_spelled.ensures.means } in
    let laws : SealLaws = record {
      laws = record { heads = heads; ids = record { again = c.ids_are_read_as_spelled.ensures.again; means = c.ids_are_read_as_spelled.ensures.means } };
      reads = c.heads_are_read_as_spelled.ensures.again;
      judged = c.heads_are_judged_from_the_left.ensures;
    } in
    faulty laws bytes fault fits e other

pub returns-clause-bundles : goal.returns-clause-bundles
returns-clause-bundles c = λ bundle fits. bundle_unlimited bundle fits
