use Rattle.std.proofs.Common.{◌+◌, ◌*◌, ℕ, get_or}
use Rattle.aes_core.specs.State.{state_of, unmixed, inverse_mix_columns}
use Rattle.aes_core.specs.Sliced.{round_key}
use Rattle.aes_core.proofs.InverseKeyLemmas.{unmixed_of}
use Rattle.aes_core.proofs.WordLemmas.{state_from}
use Rattle.aes_core.proofs.inverse_keys.inverse_key.Goals as goal

pub returns : goal.returns
unfolding inverse_mix_columns round_key state_of
returns c =
    let f : ℕ → ℕ → ℕ = λ i k. get_or c.args.w.now (16 * c.args.n + (i + 4 * k)) 0 in
    state_from (λ r k. unmixed (λ i. f i k) r) c.unmixed_word.result c.unmixed_word-2.result c.unmixed_word-3.result
    c.unmixed_word-4.result
    (unmixed_of c.unmixed_word.result c.key_column.result (λ i. f i 0)
    c.unmixed_word.ensures c.key_column.ensures)
    (unmixed_of c.unmixed_word-2.result c.key_column-2.result (λ i. f i 1)
    c.unmixed_word-2.ensures c.key_column-2.ensures)
    (unmixed_of c.unmixed_word-3.result c.key_column-3.result (λ i. f i 2)
    c.unmixed_word-3.ensures c.key_column-3.ensures)
    (unmixed_of c.unmixed_word-4.result c.key_column-4.result (λ i. f i 3)
    c.unmixed_word-4.ensures c.key_column-4.ensures)
