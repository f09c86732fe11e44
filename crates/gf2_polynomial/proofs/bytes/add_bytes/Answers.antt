use Rattle.std.proofs.Common.{get_or, refl, arith}
use Rattle.gf2_polynomial.proofs.ByteSums.{bytes_sum_more}
use Rattle.gf2_polynomial.proofs.bytes.add_bytes.Goals as goal

pub loop-place-preserved : goal.loop-place-preserved
loop-place-preserved c =
    let i = c.loop-place.place in
    bytes_sum_more c.args.bytes.now c.args.added.now c.loop-place.bytes i (get_or c.loop-place.bytes i 0) (omega arith) (omega arith)
    c.loop-place.invariant refl
