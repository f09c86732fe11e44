use Rattle.std.proofs.Common.{refl}
use Rattle.bp_fragments.proofs.Cutting.{long_so}
use Rattle.bp_fragments.proofs.cut.fragment_at.Goals as goal

pub returns-in-Err-clause-means : goal.returns-in-Err-clause-means
returns-in-Err-clause-means c = (refl, long_so c.args.bundle.now c.args.size c.args.index _ c.in-Err._fault c.size-size.ensures.shape c.in_ok-primary.ensures c.in-Err.ensures.exact)
