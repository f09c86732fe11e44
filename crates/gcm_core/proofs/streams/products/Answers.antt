use Rattle.std.proofs.Common.{ℕ, ◌+◌, ◌*◌, get_or, arith}
use Rattle.gcm_core.specs.Streams.{sum_below}
use Rattle.gcm_core.proofs.RegisterLemmas.{registers_more}
use Rattle.gcm_core.proofs.StreamLemmas.{products_are}
use Rattle.gcm_core.proofs.streams.products.Goals as goal

pub looked_up-requires-clause-halves : goal.looked_up-requires-clause-halves
looked_up-requires-clause-halves c = c.half_bytes-halves.ensures.places

pub loop-byte-preserved : goal.loop-byte-preserved
loop-byte-preserved c =
    let halves = c.half_bytes-halves.result in
    let table = c.args.table.now in
    rw c.store.ensures
    (registers_more c.loop-byte.products c.looked_up.result c.loop-byte.byte
    (λ b j. sum_below 32 (λ (q : ℕ). get_or table (256 * q + (16 * b + get_or halves (16 * q + j) 0)) 0)) c.loop-byte-test.true
    c.loop-byte.invariant.0 c.looked_up.ensures.length c.loop-byte.invariant.1 c.looked_up.ensures.sums)

pub returns : goal.returns
returns c = λ h has j g.
    products_are h c.args.table.now c.half_bytes-halves.result c.args.streams.now c.loop-byte.products j g has c.fits-streams
    c.half_bytes-halves.ensures.rows (λ b l. c.loop-byte.invariant.1 b j (omega arith) g)
