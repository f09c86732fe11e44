use Rattle.bpsec_node.proofs.BeginFaults.{fault_stands, no_fault_begins, begins_no_fault, stands_fault}
use Rattle.bpsec_node.proofs.laws.the_first_that_stands_in_the_way_is_found.Goals as goal

pub returns-clause-clear : goal.returns-clause-clear
returns-clause-clear c = λ bundle. ((λ none. no_fault_begins bundle none), (λ can. begins_no_fault bundle can))

pub returns-clause-means : goal.returns-clause-means
returns-clause-means c = λ bundle fault is. fault_stands bundle fault is

pub returns-clause-found : goal.returns-clause-found
returns-clause-found c = λ bundle fault is real stands. stands_fault bundle fault is.distinct (real, stands)
