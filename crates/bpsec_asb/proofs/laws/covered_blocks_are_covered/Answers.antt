use Rattle.bpsec_asb.proofs.CoveredTest.{covered_means, covered_found}
use Rattle.bpsec_asb.proofs.KnownSet.{visible_bcb}
use Rattle.bpsec_asb.proofs.KnownList.{known_means, known_found, all_held}
use Rattle.bpsec_asb.proofs.laws.covered_blocks_are_covered.Goals as goal

pub returns : goal.returns
returns c = λ blocks number distinct bytes. (
  (λ is. covered_means blocks number (known_means blocks distinct (all_held blocks bytes)) is),
  (λ is. covered_found blocks number (λ op service held. known_found blocks op (all_held blocks bytes).0 (held, visible_bcb blocks op distinct held service)) is),
)
