use Rattle.std.proofs.Common.{◌≡◌, ℕ, ◌+◌, ◌-◌, ◌++◌, List, length, take, drop, sym, ap, ◌∙◌, arith}
use Rattle.std.proofs.lemmas.Simd.{put_chunk_is}
use Rattle.gcm_core.proofs.streams.put_rows.Goals as goal

pub returns : goal.returns
returns c =
    let old = c.args.table.now in
    let start = c.args.start in
    let rows = c.args.rows.now in
    let count : start + 256 - start ≡ length rows = omega (arith, c.told-rows) in
    ap (λ (n : ℕ). take start old ++ (c.copy_from_slice.new.self ++ drop n (drop start old))) count
    ∙ ap (λ (t : List ℕ). take start old ++ (t ++ drop (length rows) (drop start old))) c.copy_from_slice.ensures.after
    ∙ sym (put_chunk_is start old rows (omega arith))
