use Rattle.std.proofs.Common.{arith}
use Rattle.gf2_polynomial.proofs.Differences.{difference_more}
use Rattle.gf2_polynomial.proofs.bytes.difference.Goals as goal

pub loop-place-preserved : goal.loop-place-preserved
loop-place-preserved c =
    difference_more c.args.left.now c.args.right.now c.loop-place.difference c.loop-place.place (omega arith) (omega arith)
    c.loop-place.invariant
