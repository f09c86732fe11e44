use Rattle.std.proofs.Common.{◌+◌, ◌%◌, ℕ, get_or}
use Rattle.std.specs.Int.{byte_at}
use Rattle.aes_core.specs.Boxes.{sub_byte}
use Rattle.aes_core.specs.State.{state_of, mixed, mix_columns, shift_rows, sub_bytes}
use Rattle.aes_core.specs.Words.{state_in}
use Rattle.aes_core.proofs.WordLemmas.{state_from}
use Rattle.aes_core.proofs.rounds.round.Goals as goal

pub returns : goal.returns
unfolding mix_columns shift_rows sub_bytes state_in state_of
returns c =
    let s : ℕ → ℕ = λ k. get_or c.args.state k 0 in
    let bytes : ℕ → ℕ → ℕ = λ r k. mixed (λ i. sub_byte (byte_at i (s ((k + i) % 4)))) r in
    state_from bytes c.mixed_column.result c.mixed_column-2.result c.mixed_column-3.result c.mixed_column-4.result
    (rw c.diagonal.ensures at c.mixed_column.ensures) (rw c.diagonal-2.ensures at c.mixed_column-2.ensures)
    (rw c.diagonal-3.ensures at c.mixed_column-3.ensures) (rw c.diagonal-4.ensures at c.mixed_column-4.ensures)
