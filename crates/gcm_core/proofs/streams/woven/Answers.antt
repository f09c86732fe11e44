use Rattle.std.proofs.Common.{ℕ, List, ◌*◌, ◌+◌, ◌/◌, ◌%◌, ◌++◌, get_or, ap, ap₂, ◌∙◌}
use Rattle.gcm_core.proofs.RegisterLemmas.{woven_more}
use Rattle.gcm_core.proofs.streams.woven.Goals as goal

pub loop-row-preserved : goal.loop-row-preserved
loop-row-preserved c =
    let bytes = c.args.bytes.now in
    let row = c.loop-row.row in
    let both = ap₂ (λ (a b : List ℕ). a ++ b) c.load.ensures.value c.load-in-loop-row.ensures.value in
    rw (c.store-in-loop-row.ensures, c.store.ensures)
    (woven_more bytes c.loop-row.woven c.interleaved.result.0 c.interleaved.result.1 row c.loop-row-test.true c.requires
    c.loop-row.invariant.0 c.interleaved.ensures.lengths.0 c.interleaved.ensures.lengths.1
    (λ j h. c.interleaved.ensures.first j h ∙ ap (λ (t : List ℕ). get_or t (j / 2 + 16 * (j % 2)) 0) both)
    (λ j h. c.interleaved.ensures.second j h ∙ ap (λ (t : List ℕ). get_or t (8 + j / 2 + 16 * (j % 2)) 0) both)
    c.loop-row.invariant.1)
