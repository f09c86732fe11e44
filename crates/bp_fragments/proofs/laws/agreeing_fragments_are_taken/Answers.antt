use Rattle.bp_bundle.specs.Shape.{payload}
use Rattle.bp_fragments.specs.Agreement.{frame, gathered}
use Rattle.bp_fragments.proofs.Adding.{accepted, agree_pushed}
use Rattle.bp_fragments.proofs.Orders.{agreeing_taken}
use Rattle.bp_fragments.proofs.laws.agreeing_fragments_are_taken.Goals as goal

pub returns-clause-found : goal.returns-clause-found
returns-clause-found c = agreeing_taken

pub returns-clause-means : goal.returns-clause-means
returns-clause-means c = λ pieces piece agree free. agree_pushed pieces piece agree (accepted (gathered pieces) piece.primary (frame piece) (payload piece) free)
