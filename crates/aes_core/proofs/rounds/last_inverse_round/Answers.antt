use Rattle.std.proofs.Common.{◌+◌, ◌-◌, ◌%◌, ℕ, get_or}
use Rattle.std.specs.Int.{byte_at}
use Rattle.aes_core.specs.Boxes.{inverse_sub_byte}
use Rattle.aes_core.specs.State.{state_of, inverse_sub_bytes, inverse_shift_rows}
use Rattle.aes_core.specs.Words.{state_in}
use Rattle.aes_core.proofs.WordLemmas.{state_from}
use Rattle.aes_core.proofs.rounds.last_inverse_round.Goals as goal

pub returns : goal.returns
unfolding inverse_sub_bytes inverse_shift_rows state_in state_of
returns c =
    let s : ℕ → ℕ = λ k. get_or c.args.state k 0 in
    let bytes : ℕ → ℕ → ℕ = λ i k. inverse_sub_byte (byte_at i (s ((k + 4 - i) % 4))) in
    state_from bytes c.unboxed_column.result c.unboxed_column-2.result c.unboxed_column-3.result c.unboxed_column-4.result
    (rw c.diagonal.ensures at c.unboxed_column.ensures) (rw c.diagonal-2.ensures at c.unboxed_column-2.ensures)
    (rw c.diagonal-3.ensures at c.unboxed_column-3.ensures) (rw c.diagonal-4.ensures at c.unboxed_column-4.ensures)
