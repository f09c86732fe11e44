use Rattle.std.proofs.Common.{ℕ, List, sym, ap, ◌∙◌, get_or, zero-add}
use Rattle.std.proofs.lemmas.Simd.{get_or-chunk}
use Rattle.gcm_core.specs.Block.{bits, block_of}
use Rattle.gcm_core.proofs.BlockLemmas.{block_of-bits}
use Rattle.gcm_core.proofs.RegisterLemmas.{registers_more}
use Rattle.gcm_core.proofs.streams.rows_of.Goals as goal

pub loop-row-preserved : goal.loop-row-preserved
loop-row-preserved c =
    let blocks = c.args.blocks.now in
    rw c.store.ensures
    (registers_more c.loop-row.rows c.load.result c.loop-row.row (λ m b. get_or (block_of (bits 128 (get_or blocks m 0))) b 0)
    c.loop-row-test.true c.loop-row.invariant.0 c.load.ensures.length c.loop-row.invariant.1
    (λ b g. ap (λ (t : List ℕ). get_or t b 0) c.load.ensures.value ∙ get_or-chunk 0 16 c.to_be_bytes.result b 0 g
    ∙ ap (λ (n : ℕ). get_or c.to_be_bytes.result n 0) (zero-add b)
    ∙ ap (λ (t : List ℕ). get_or t b 0) (c.to_be_bytes.ensures ∙ sym (block_of-bits 16 (get_or blocks c.loop-row.row 0)))))
