use Rattle.std.proofs.Common.{◌≡◌, ap, sym, ◌∙◌, arith}
use Rattle.aes_core.specs.State.{sub_bytes, shift_rows, mix_columns, add_round_key}
use Rattle.aes_core.specs.Cipher.{rounds, encryption}
use Rattle.aes_core.proofs.RoundLemmas.{rounds_more}
use Rattle.aes_core.proofs.rounds.encryption.Goals as goal

pub loop-n-init : goal.loop-n-init
unfolding rounds
loop-n-init c = c.add_round_key-state.ensures ∙ ap (add_round_key c.args.w.now 0) c.words_of.ensures

pub loop-n-preserved : goal.loop-n-preserved
loop-n-preserved c =
    let w = c.args.w.now in
    c.add_round_key-state-in-loop-n.ensures
    ∙ ap (add_round_key w c.loop-n.n)
    (c.round.ensures ∙ ap (λ s. mix_columns (shift_rows (sub_bytes s))) c.loop-n.invariant)
    ∙ sym (rounds_more w c.loop-n.n (add_round_key w 0 c.args.block.now) (omega arith))

pub returns : goal.returns
unfolding encryption
returns c =
    let w = c.args.w.now in
    let end : c.loop-n.n ≡ c.args.nr = omega (arith, c.loop-n.auto.n-end) in
    let before = rw end at c.loop-n.invariant in
    c.bytes_of.ensures ∙ c.add_round_key.ensures
    ∙ ap (add_round_key w c.args.nr) (c.last_round.ensures ∙ ap (λ s. shift_rows (sub_bytes s)) before)
