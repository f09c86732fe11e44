use Rattle.std.proofs.Common.{◌≡◌, ◌-◌, [], List, ℕ, get_or, ap, sym, ◌∙◌, arith}
use Rattle.aes_core.specs.State.{add_round_key, inverse_sub_bytes, inverse_shift_rows, inverse_mix_columns}
use Rattle.aes_core.specs.Cipher.{inverse_rounds, decryption}
use Rattle.aes_core.specs.Sliced.{sum_of}
use Rattle.aes_core.specs.Words.{state_in}
use Rattle.aes_core.proofs.InverseKeyLemmas.{added_after}
use Rattle.aes_core.proofs.RoundLemmas.{inverse_rounds_more}
use Rattle.aes_core.proofs.StateLemmas.{Bytes, Bytes-inverse_sub_bytes}
use Rattle.aes_core.proofs.rounds.decryption.Goals as goal

pub loop-n-init : goal.loop-n-init
loop-n-init c =
    ap (inverse_rounds c.args.w.now (c.args.nr - 1))
    (c.add_round_key-state.ensures ∙ ap (add_round_key c.args.w.now c.args.nr) c.words_of.ensures)

pub loop-n-preserved : goal.loop-n-preserved
loop-n-preserved c =
    let w = c.args.w.now in
    let n : ℕ = c.loop-n.n - 1 in
    let state : List ℕ = state_in c.loop-n.state in
    let boxed : List ℕ = inverse_sub_bytes (inverse_shift_rows state) in
    let key : List ℕ = get_or c.args.inverse_keys.now n [] in
    let bytes : Bytes w = record { below = λ i. (c.type_inv.w i).fits } in
    let round : state_in c.sum-state.result ≡ inverse_mix_columns (add_round_key w n boxed) =
    c.sum-state.ensures ∙ ap (λ s. sum_of s (state_in key)) c.inverse_round.ensures
    ∙ added_after w n boxed (state_in key) bytes (Bytes-inverse_sub_bytes (inverse_shift_rows state))
    (c.requires.inverse n (omega arith)) in
    ap (inverse_rounds w (n - 1)) round ∙ sym (inverse_rounds_more w n state (omega arith)) ∙ c.loop-n.invariant

pub returns : goal.returns
unfolding decryption inverse_rounds
returns c =
    let w = c.args.w.now in
    let end : c.loop-n.n - 1 ≡ 0 = omega arith in
    let all = rw end at c.loop-n.invariant in
    c.bytes_of.ensures ∙ c.add_round_key.ensures
    ∙ ap (add_round_key w 0) (c.last_inverse_round.ensures ∙ ap (λ s. inverse_sub_bytes (inverse_shift_rows s)) all)
