use Rattle.bpsec_asb.proofs.Members.{among, contains}
use Rattle.bpsec_node.proofs.Legal.{done_among_all, done_once, once_pairs}
use Rattle.bpsec_node.proofs.Ended.{all_done}
use Rattle.bpsec_node.proofs.Few.{done_few}
use Rattle.bpsec_node.specs.AllOperations.{all_operations}
use Rattle.bpsec_node.proofs.laws.nothing_ready_means_all_done.Goals as goal

pub returns-clause-all : goal.returns-clause-all
returns-clause-all c = λ s done op legal none. (
  (λ there. contains (all_operations s) op (done_among_all s done op legal (among done op there))),
  (λ there. contains done op (all_done s done op none (among (all_operations s) op there))),
)

pub returns-clause-once : goal.returns-clause-once
returns-clause-once c = λ s done legal. once_pairs done (done_once s done legal)

pub returns-clause-few : goal.returns-clause-few
returns-clause-few c = λ s done is legal. done_few s done is legal
