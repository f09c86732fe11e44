use Rattle.bpsec_asb.specs.Order.{op_cmp}
use Rattle.bpsec_asb.proofs.Members.{among, contains}
use Rattle.bpsec_asb.proofs.Ordered.{op_cmp_total, same_sorted}
use Rattle.bpsec_asb.proofs.KnownList.{known_means, known_found, known_ordered, all_held}
use Rattle.bpsec_asb.proofs.laws.known_operations_are_listed_once_in_order.Goals as goal

pub returns-clause-means : goal.returns-clause-means
returns-clause-means c = λ blocks distinct small. known_means blocks distinct (all_held blocks small)

pub returns-clause-found : goal.returns-clause-found
returns-clause-found c = λ blocks op small known. known_found blocks op (all_held blocks small).0 known

pub returns-clause-ordered : goal.returns-clause-ordered
returns-clause-ordered c = λ blocks. known_ordered blocks

pub returns-clause-only : goal.returns-clause-only
returns-clause-only c = λ xs ys sx sy same.
    same_sorted op_cmp op_cmp_total xs ys sx sy (λ x there. among ys x ((same x).0 (contains xs x there))) (λ y there. among xs y ((same y).1 (contains ys y there)))
