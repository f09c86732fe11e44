use Rattle.std.proofs.Common.{ℕ, ◌/◌, ◌^◌, replicate, bit_and, ◌∙◌, arith}
use Rattle.std.proofs.lemmas.Simd.{length-zip2}
use Rattle.gcm_core.proofs.RegisterLemmas.{half_bytes_more, half_bytes_small}
use Rattle.gcm_core.proofs.streams.half_bytes.Goals as goal

pub store-requires-clause-lanes : goal.store-requires-clause-lanes
store-requires-clause-lanes c =
    length-zip2 (λ (a b : ℕ). a / 2 ^ b) c.load-bytes.result (replicate 16 4) c.load-bytes.ensures.length ∙ c.load-bytes.ensures.length

pub store-requires-in-loop-register-clause-lanes : goal.store-requires-in-loop-register-clause-lanes
store-requires-in-loop-register-clause-lanes c =
    length-zip2 bit_and c.load-bytes.result (replicate 16 15) c.load-bytes.ensures.length ∙ c.load-bytes.ensures.length

pub loop-register-preserved : goal.loop-register-preserved
loop-register-preserved c =
    rw (c.store-in-loop-register.ensures, c.store.ensures, c.load-bytes.ensures.value)
    (half_bytes_more c.args.streams.now c.loop-register.halves c.loop-register.register c.loop-register-test.true c.told-streams
    c.loop-register.invariant.0 c.loop-register.invariant.1)

pub returns-clause-places : goal.returns-clause-places
returns-clause-places c =
    half_bytes_small c.loop-register.halves c.args.streams.now c.loop-register.invariant.0 c.fits-streams
    (λ q j h g. c.loop-register.invariant.1 q j (omega arith) g)
