use Rattle.cmac_core.proofs.LawLemmas.{product_is}
use Rattle.cmac_core.proofs.laws.product_by_x_differs_by_a_multiple.Goals as goal

pub returns : goal.returns
returns c = product_is
