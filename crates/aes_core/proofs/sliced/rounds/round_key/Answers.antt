use Rattle.std.proofs.Common.{◌+◌, ◌-◌, ◌*◌, [], get_or, drop, ap, ◌∙◌, arith}
use Rattle.std.proofs.lemmas.List.{get_or-take, get_or-drop}
use Rattle.std.proofs.lemmas.Simd.{get_or-replicate}
use Rattle.aes_core.proofs.SlicedLemmas.{round_key_is}
use Rattle.aes_core.proofs.sliced.rounds.round_key.Goals as goal

pub returns : goal.returns
returns c = λ j lt.
    let block = c.copy_from_slice.new.self in
    let from = c.copy_from_slice.ensures.after in
    let w = c.args.w.now in
    let n = c.args.n in
    c.gathered.ensures j lt ∙ get_or-replicate 8 j block [] lt
    ∙ round_key_is w n block c.copy_from_slice.ensures.len
    (λ p h. ap (λ l. get_or l p 0) from ∙ get_or-take (16 * n + 16 - 16 * n) (drop (16 * n) w) p 0 (omega arith)
    ∙ get_or-drop (16 * n) w p 0)
