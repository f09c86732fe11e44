use Rattle.std.proofs.Common.{◌+◌, ◌*◌, ℕ, get_or, bit_xor, refl}
use Rattle.std.specs.Int.{byte_at}
use Rattle.aes_core.specs.State.{state_of, add_round_key}
use Rattle.aes_core.specs.Words.{state_in}
use Rattle.aes_core.proofs.WordLemmas.{column_sum, state_from}
use Rattle.aes_core.proofs.words.add_round_key.Goals as goal

pub returns : goal.returns
unfolding add_round_key state_in state_of
returns c =
    let s : ℕ → ℕ = λ k. get_or c.args.state k 0 in
    let f : ℕ → ℕ → ℕ = λ k r. byte_at r (s k) in
    let g : ℕ → ℕ → ℕ = λ k r. get_or c.args.w.now (16 * c.args.n + (r + 4 * k)) 0 in
    state_from (λ r k. bit_xor (f k r) (g k r)) _ _ _ _
    (column_sum (s 0) c.key_column.result (f 0) (g 0) refl c.key_column.ensures)
    (column_sum (s 1) c.key_column-2.result (f 1) (g 1) refl c.key_column-2.ensures)
    (column_sum (s 2) c.key_column-3.result (f 2) (g 2) refl c.key_column-3.ensures)
    (column_sum (s 3) c.key_column-4.result (f 3) (g 3) refl c.key_column-4.ensures)
