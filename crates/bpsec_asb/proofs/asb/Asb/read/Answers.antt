use Rattle.std.proofs.Common.{arith}
use Rattle.bpsec_asb.proofs.Blocks.{is_meant, is_found}
use Rattle.bpsec_asb.proofs.asb.Asb.read.Goals as goal

pub returns-clause-means : goal.returns-clause-means
returns-clause-means c = is_meant c.args.body.now c.whole.result (λ i. omega (arith, c.type_inv.body i)) c.whole.ensures

pub returns-clause-found : goal.returns-clause-found
returns-clause-found c = λ asb reads. is_found c.args.body.now c.whole.result asb c.whole.ensures reads
