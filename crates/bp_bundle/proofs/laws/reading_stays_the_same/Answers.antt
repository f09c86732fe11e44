use Rattle.std.proofs.Common.{refl, ◌∙◌}
use Rattle.bp_bundle.specs.FirstFault.{read_bundle}
use Rattle.bp_bundle.proofs.ReadingStays.{GrowthLaws, bundle_grows, stays_ok, stays_err}
use Rattle.bp_bundle.proofs.laws.reading_stays_the_same.Goals as goal

pub returns-clause-bundle : goal.returns-clause-bundle
unfolding read_bundle
returns-clause-bundle c = λ bytes more bundle after e.
    let laws : GrowthLaws = record { heads = c.heads_are_judged_from_the_left.ensures; ids = c.answers_stay_the_same.ensures.id; id_faults = c.answers_stay_the_same.ensures.fault } in
    stays_ok _ _ _ (bundle, after) (bundle_grows laws (record { at = 0; rest = bytes }) more) e

pub returns-clause-fault : goal.returns-clause-fault
unfolding read_bundle
returns-clause-fault c = λ bytes more fault e other.
    let laws : GrowthLaws = record { heads = c.heads_are_judged_from_the_left.ensures; ids = c.answers_stay_the_same.ensures.id; id_faults = c.answers_stay_the_same.ensures.fault } in
    stays_err _ _ _ fault (bundle_grows laws (record { at = 0; rest = bytes }) more) e other
