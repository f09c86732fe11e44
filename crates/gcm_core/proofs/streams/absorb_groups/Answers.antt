use Rattle.std.proofs.Common.{◌≡◌, [], ◌+◌, ◌-◌, ◌*◌, ◌≤◌, length, drop, refl, ap, ◌∙◌, arith, get_or-take, get_or-drop}
use Rattle.gcm_core.specs.Block.{bits}
use Rattle.gcm_core.specs.Hash.{ghash}
use Rattle.gcm_core.proofs.TagLemmas.{Hashes_none, filled_whole}
use Rattle.gcm_core.proofs.GroupLemmas.{groups_first, groups_more, groups_all}
use Rattle.gcm_core.proofs.streams.absorb_groups.Goals as goal

pub loop-group-init : goal.loop-group-init
loop-group-init c =
    groups_first c.args.subkey.now c.args.bytes.now c.first_streams-streams.result c.args.hash (omega (arith, c.requires.whole))
    c.first_streams-streams.ensures.zeroth c.first_streams-streams.ensures.others

pub loop-group-preserved : goal.loop-group-preserved
loop-group-preserved c =
    let n = c.loop-group.group in
    let bytes = c.args.bytes.now in
    let count = 256 * n + 256 - 256 * n in
    let room : 256 * n + 256 ≤ length bytes = omega (arith, c.loop-group-test.true) in
    groups_more c.args.subkey.now (bits 128 c.sixteenth_power.result) bytes c.loop-group.streams c.products.result
    c.transposed-blocks.result c.sums-next.result c.args.hash n c.sixteenth_power.ensures.length c.sixteenth_power.ensures.power room
    (c.products.ensures (bits 128 c.sixteenth_power.result) c.product_table-table.ensures)
    (λ b i l h. c.transposed-blocks.ensures b i l h ∙ get_or-take count (drop (256 * n) bytes) (16 * i + b) 0 (omega arith)
    ∙ get_or-drop (256 * n) bytes (16 * i + b) 0)
    c.sums-next.ensures c.loop-group.invariant

pub returns : goal.returns
returns c =
    let h = c.args.subkey.now in
    let rows = c.transposed.result in
    let size : length rows ≡ 256 = omega arith in
    let held = c.absorb_blocks.ensures [] (Hashes_none h) in
    groups_all h c.args.bytes.now c.loop-group.streams rows c.args.hash c.loop-group.group c.absorb_blocks.result
    (omega (arith, c.requires.whole)) size c.transposed.ensures
    (held.hash ∙ ap (ghash h) (filled_whole rows (rw size refl))) c.loop-group.invariant
