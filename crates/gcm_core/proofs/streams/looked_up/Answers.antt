use Rattle.std.proofs.Common.{◌*◌, refl, arith}
use Rattle.std.proofs.lemmas.Simd.{get_or-replicate}
use Rattle.gcm_core.specs.Streams.{sum_below}
use Rattle.gcm_core.proofs.RegisterLemmas.{looked_up_more, places_ok}
use Rattle.gcm_core.proofs.streams.looked_up.Goals as goal

pub loop-half-init : goal.loop-half-init
unfolding sum_below
loop-half-init c = (refl, λ j h. get_or-replicate 16 j 0 0 h)

pub swizzle : goal.swizzle
swizzle c = rw c.load.ensures.value (places_ok c.args.halves.now (16 * c.loop-half.half) (omega arith) c.requires.halves)

pub loop-half-preserved : goal.loop-half-preserved
loop-half-preserved c =
    rw (c.load-entries.ensures.value, c.load.ensures.value)
    (looked_up_more c.args.table.now c.args.halves.now c.loop-half.sum c.loop-half.half c.args.byte c.loop-half-test.true c.requires.byte
    c.told-table c.told-halves c.loop-half.invariant.0 c.requires.halves c.loop-half.invariant.1)
