use Rattle.std.proofs.Common.{refl, None, []}
use Rattle.bpsec_node.specs.Ring.{at_node}
use Rattle.bpsec_node.proofs.Ringed.{ring_gives}
use Rattle.bpsec_node.proofs.laws.operations_have_the_keys_of_their_rules.Goals as goal

pub returns : goal.returns
unfolding at_node
returns c = λ suite bundle policy ring op. ring_gives (record { bundle = bundle; policy = policy; suite = suite; key = λ _. None }) [] ring op refl
