use Rattle.gf2_polynomial.proofs.Products.{product-sum, sum-product}
use Rattle.gf2_polynomial.proofs.laws.products_are_additive.Goals as goal

pub returns-clause-first : goal.returns-clause-first
returns-clause-first c = product-sum

pub returns-clause-last : goal.returns-clause-last
returns-clause-last c = sum-product
