use Rattle.std.proofs.Common.{◌≡◌, ◌+◌, sym, ap, ◌∙◌, arith}
use Rattle.aes_core.specs.State.{sub_bytes, shift_rows, mix_columns, add_round_key}
use Rattle.aes_core.specs.Cipher.{rounds, encryption}
use Rattle.aes_core.specs.Sliced.{block_of}
use Rattle.aes_core.proofs.RoundLemmas.{rounds_more}
use Rattle.aes_core.proofs.SlicedLemmas.{keyed, sub_bytes_shifted}
use Rattle.aes_core.proofs.sliced.rounds.encryption.Goals as goal

pub loop-n-init : goal.loop-n-init
unfolding rounds
loop-n-init c = λ w are j lt.
    c.add-state.ensures j
    ∙ keyed w (c.args.nr + 1) c.args.keys.now are 0 c.index-keys-0.result (omega arith) (omega arith)
    c.index-keys-0.is (block_of c.args.state j) j lt

pub loop-n-preserved : goal.loop-n-preserved
loop-n-preserved c = λ w are j lt.
    let before = c.loop-n.invariant w are j lt in
    c.add-state-in-loop-n.ensures j
    ∙ keyed w (c.args.nr + 1) c.args.keys.now are c.loop-n.n c.index-keys-n.result (omega arith) (omega arith)
    c.index-keys-n.is (block_of c.mix_columns.result j) j lt
    ∙ ap (add_round_key w c.loop-n.n)
    (c.mix_columns.ensures j
    ∙ ap mix_columns
    (c.sub_bytes.ensures j lt ∙ ap sub_bytes (c.shift_rows.ensures j ∙ ap shift_rows before) ∙ sub_bytes_shifted _))
    ∙ sym (rounds_more w c.loop-n.n (add_round_key w 0 (block_of c.args.state j)) (omega arith))

pub returns : goal.returns
unfolding encryption
returns c = λ w are j lt.
    let end : c.loop-n.n ≡ c.args.nr = omega (arith, c.loop-n.auto.n-end) in
    let before = rw end at (c.loop-n.invariant w are j lt) in
    c.add.ensures j
    ∙ keyed w (c.args.nr + 1) c.args.keys.now are c.args.nr c.index-keys-nr.result (omega arith) (omega arith)
    c.index-keys-nr.is (block_of c.sub_bytes-2.result j) j lt
    ∙ ap (add_round_key w c.args.nr)
    (c.sub_bytes-2.ensures j lt ∙ ap sub_bytes (c.shift_rows-2.ensures j ∙ ap shift_rows before) ∙ sub_bytes_shifted _)
