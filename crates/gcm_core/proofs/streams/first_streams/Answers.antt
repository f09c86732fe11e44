use Rattle.std.proofs.Common.{ℕ, ◌+◌, ◌*◌, List, take, get_or, refl, ap, ◌∙◌}
use lib.Lanes.{put_chunk}
use Rattle.gcm_core.proofs.FirstLemmas.{first_stream, other_stream}
use Rattle.gcm_core.proofs.streams.first_streams.Goals as goal

pub returns-clause-zeroth : goal.returns-clause-zeroth
returns-clause-zeroth c =
    let rows = c.copy_from_slice.new.self in
    let written = c.store.ensures ∙ ap (put_chunk 0 rows) c.load.ensures.value in
    first_stream c.args.bytes.now rows c.to_be_bytes.result c.transposed.result _ c.requires c.copy_from_slice.ensures.after
    c.to_be_bytes.ensures
    (λ i j l h. c.transposed.ensures i j l h ∙ ap (λ (t : List ℕ). get_or t (16 * j + i) 0) written)
    c.args.hash c.filled_block.result (take 16 c.args.bytes.now) refl refl c.filled_block.ensures

pub returns-clause-others : goal.returns-clause-others
returns-clause-others c =
    let rows = c.copy_from_slice.new.self in
    let written = c.store.ensures ∙ ap (put_chunk 0 rows) c.load.ensures.value in
    other_stream c.args.bytes.now rows c.to_be_bytes.result c.transposed.result _ c.requires c.copy_from_slice.ensures.after
    c.to_be_bytes.ensures
    (λ i j l h. c.transposed.ensures i j l h ∙ ap (λ (t : List ℕ). get_or t (16 * j + i) 0) written)
