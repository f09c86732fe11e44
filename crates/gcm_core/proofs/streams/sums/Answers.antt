use Rattle.std.proofs.Common.{bit_xor, sym, ◌∙◌}
use Rattle.std.proofs.lemmas.Simd.{length-zip2}
use Rattle.gcm_core.proofs.RegisterLemmas.{sums_more}
use Rattle.gcm_core.proofs.streams.sums.Goals as goal

pub store-requires-clause-lanes : goal.store-requires-clause-lanes
store-requires-clause-lanes c =
    length-zip2 bit_xor c.load.result c.load-in-loop-register.result (c.load.ensures.length ∙ sym c.load-in-loop-register.ensures.length)
    ∙ c.load.ensures.length

pub loop-register-preserved : goal.loop-register-preserved
loop-register-preserved c =
    rw (c.store.ensures, c.load.ensures.value, c.load-in-loop-register.ensures.value)
    (sums_more c.args.left.now c.args.right.now c.loop-register.sums c.loop-register.register c.loop-register-test.true c.told-left
    c.told-right c.loop-register.invariant.0 c.loop-register.invariant.1)
