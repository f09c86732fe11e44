use Rattle.bp_fragments.proofs.AllFragments.{cut_free}
use Rattle.bp_fragments.proofs.Cuts.{cut_agrees, cut_covers, joined_again}
use Rattle.bp_fragments.proofs.laws.a_cut_is_joined_again.Goals as goal

pub returns-clause-agree : goal.returns-clause-agree
returns-clause-agree c = λ bundle size is free. cut_agrees bundle size is (cut_free bundle size free)

pub returns-clause-covers : goal.returns-clause-covers
returns-clause-covers c = λ bundle size is free. (cut_covers bundle size is (cut_free bundle size free)).covers

pub returns-clause-joined : goal.returns-clause-joined
returns-clause-joined c = λ bundle size pieces is free some of covers. joined_again bundle size pieces is (cut_free bundle size free) (record { some = some; of = of; covers = covers })
