use Rattle.std.proofs.Common.{ℕ, get_or, bit_xor, refl}
use Rattle.std.specs.Int.{byte_at}
use Rattle.aes_core.specs.State.{state_of}
use Rattle.aes_core.specs.Sliced.{sum_of}
use Rattle.aes_core.specs.Words.{state_in}
use Rattle.aes_core.proofs.WordLemmas.{column_sum, state_from}
use Rattle.aes_core.proofs.words.sum.Goals as goal

pub returns : goal.returns
unfolding sum_of state_in state_of
returns c =
    let s : ℕ → ℕ = λ k. get_or c.args.s k 0 in
    let t : ℕ → ℕ = λ k. get_or c.args.t k 0 in
    let f : ℕ → ℕ → ℕ = λ k r. byte_at r (s k) in
    let g : ℕ → ℕ → ℕ = λ k r. byte_at r (t k) in
    state_from (λ r k. bit_xor (f k r) (g k r)) _ _ _ _
    (column_sum (s 0) (t 0) (f 0) (g 0) refl refl) (column_sum (s 1) (t 1) (f 1) (g 1) refl refl)
    (column_sum (s 2) (t 2) (f 2) (g 2) refl refl) (column_sum (s 3) (t 3) (f 3) (g 3) refl refl)
