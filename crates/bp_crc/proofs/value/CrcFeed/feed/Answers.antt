-- The groups and the bytes behind them are the piece.
use Rattle.std.proofs.Common.{◌≡◌, ◌/◌, ◌++◌, ℕ, List, length, ap, ◌∙◌, append_assoc}
use Rattle.std.specs.List.{concat}
use Rattle.bp_crc.specs.Table.{register_of}
use Rattle.bp_crc.proofs.Groups.{chunks_whole}
use Rattle.bp_crc.proofs.value.CrcFeed.feed.Goals as goal

pub returns-clause-stands : goal.returns-clause-stands
returns-clause-stands g c = λ fed stands _.
    let w : ℕ = g.row.BITS in
    let piece : List ℕ = c.args.piece.now in
    let groups : List ℕ = concat c.as_chunks.result.0.now in
    let whole : groups ++ c.as_chunks.result.1.now ≡ piece =
    rw (c.as_chunks.ensures.front, c.as_chunks.ensures.back) (chunks_whole 16 (length piece / 16) piece) in
    c.with_bytes-self-inside.ensures.stands (fed ++ groups) (c.with_groups-whole.ensures.stands fed (c.self.view_is ∙ stands))
    ∙ ap (register_of w) (append_assoc fed groups c.as_chunks.result.1.now ∙ ap (λ (x : List ℕ). fed ++ x) whole)
