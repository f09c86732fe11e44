use Rattle.bp_fragments.proofs.Orders.{order_tells_nothing}
use Rattle.bp_fragments.proofs.laws.the_order_of_fragments_tells_nothing.Goals as goal

pub returns : goal.returns
returns c = λ xs ys agree to back. order_tells_nothing xs ys agree (record { to = to; back = back })
