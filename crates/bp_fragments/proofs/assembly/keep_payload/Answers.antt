use Rattle.std.proofs.Common.{◌≡◌, List, ℕ, Option, length, ap, ◌∙◌, arith}
use Rattle.bp_fragments.proofs.Lists.{length_map_below}
use Rattle.bp_fragments.proofs.assembly.keep_payload.Goals as goal

pub put-requires-2-clause-room : goal.put-requires-2-clause-room
put-requires-2-clause-room c =
    let size : length c.in_ok-whole.whole ≡ c.args.piece.total = ap (λ (xs : List (Option ℕ)). length xs) c.in_ok-whole.ensures ∙ length_map_below _ c.args.piece.total in
    let within = c.requires.within in
    omega arith
