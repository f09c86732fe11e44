use Rattle.std.proofs.Common.{◌≡◌, [], arith}
use Rattle.bpsec_secure.proofs.LawLemmas.{least_at, none_before}
use Rattle.bpsec_secure.proofs.laws.the_least_index_of_an_item.Goals as goal

pub returns-clause-some : goal.returns-clause-some
returns-clause-some c = λ holds items at is.
    let least = least_at holds [] items at is in
    let e : at ≡ least.index = omega (arith, least.at_is) in
    rw e (least.within, least.here, least.not_before)

pub returns-clause-none : goal.returns-clause-none
returns-clause-none c = λ holds items none. none_before holds [] items none
