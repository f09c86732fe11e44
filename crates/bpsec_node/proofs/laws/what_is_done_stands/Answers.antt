use Rattle.bpsec_asb.proofs.Members.{among}
use Rattle.bpsec_node.proofs.Agree.{ready_same}
use Rattle.bpsec_node.proofs.Legal.{done_verdict_same, legal_same, shown_whole_same}
use Rattle.bpsec_node.proofs.laws.what_is_done_stands.Goals as goal

pub returns-clause-verdict : goal.returns-clause-verdict
returns-clause-verdict c = λ s key done op agree legal there. done_verdict_same s key done op agree legal (among done op there)

pub returns-clause-shown : goal.returns-clause-shown
returns-clause-shown c = λ s key done agree. shown_whole_same s key done agree

pub returns-clause-ready : goal.returns-clause-ready
returns-clause-ready c = λ s key done agree. ready_same s key done agree

pub returns-clause-legal : goal.returns-clause-legal
returns-clause-legal c = λ s key done agree legal. legal_same s key done agree legal
