use Rattle.std.proofs.Common.{◌+◌, ◌*◌, ℕ, ◌<◌, get_or, refl, sym, ◌∙◌}
use Rattle.aes_core.specs.State.{state_of}
use Rattle.aes_core.proofs.StateLemmas.{sixteen}
use Rattle.aes_core.proofs.WordLemmas.{word_from, state_from}
use Rattle.aes_core.proofs.words.words_of.Goals as goal

pub returns : goal.returns
unfolding state_of
returns c =
    let block = c.args.block.now in
    let below : (i : ℕ) → get_or block i 0 < 256 = λ i. c.fits-block i in
    state_from (λ r k. get_or block (r + 4 * k) 0) c.from_le_bytes.result c.from_le_bytes-2.result
    c.from_le_bytes-3.result c.from_le_bytes-4.result
    (rw c.from_le_bytes.ensures (word_from (λ r. get_or block (r + 4 * 0) 0) (λ r. below (r + 4 * 0))))
    (rw c.from_le_bytes-2.ensures (word_from (λ r. get_or block (r + 4 * 1) 0) (λ r. below (r + 4 * 1))))
    (rw c.from_le_bytes-3.ensures (word_from (λ r. get_or block (r + 4 * 2) 0) (λ r. below (r + 4 * 2))))
    (rw c.from_le_bytes-4.ensures (word_from (λ r. get_or block (r + 4 * 3) 0) (λ r. below (r + 4 * 3))))
    ∙ sym (sixteen (λ k. get_or block k 0) block c.told-block (λ k h. refl))
