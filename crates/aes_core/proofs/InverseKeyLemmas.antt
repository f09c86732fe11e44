-- Round keys times the inverse matrix: they are added after the multiplication by it.
use Rattle.std.proofs.Common.{◌≡◌, ℕ, ◌+◌, ◌*◌, ◌/◌, ◌%◌, List, get_or, sym, ap, ◌∙◌}
use Rattle.std.specs.Int.{byte_at}
use Rattle.std.specs.Int.Bits.{bit_xor}
use Rattle.aes_core.specs.State.{state_of, column_of, unmixed, add_round_key, inverse_mix_columns}
use Rattle.aes_core.specs.Words.{IsColumn}
use Rattle.aes_core.specs.Sliced.{round_key, sum_of}
use Rattle.aes_core.proofs.BlockLemmas.{same_state}
use Rattle.aes_core.proofs.MixLemmas.{unmixed-xor}
use Rattle.aes_core.proofs.StateLemmas.{Bytes}

pub added_after : (w : List ℕ) (n : ℕ) (s key : List ℕ) → Bytes w → Bytes s → key ≡ inverse_mix_columns (round_key w n)
    → sum_of (inverse_mix_columns s) key ≡ inverse_mix_columns (add_round_key w n s)
unfolding inverse_mix_columns add_round_key round_key sum_of state_of
added_after w n s key bw bs e =
    let f : ℕ → ℕ → ℕ = λ i c. get_or s (i + 4 * c) 0 in
    let g : ℕ → ℕ → ℕ = λ i c. get_or w (16 * n + (i + 4 * c)) 0 in
    ap (sum_of (inverse_mix_columns s)) e
    ∙ sym (same_state (λ p. unmixed (λ i. bit_xor (f i (p / 4)) (g i (p / 4))) (p % 4))
    (λ p. bit_xor (unmixed (λ i. f i (p / 4)) (p % 4)) (unmixed (λ i. g i (p / 4)) (p % 4)))
    (λ p h.
    unmixed-xor (λ i. f i (p / 4)) (λ i. g i (p / 4)) (λ i. bs.below (i + 4 * (p / 4)))
    (λ i. bw.below (16 * n + (i + 4 * (p / 4)))) (p % 4)))

-- a column of the S-box's values through the table of the way back
pub unmixed_of : (x y : ℕ) (f : ℕ → ℕ) → IsColumn x (unmixed (λ r. byte_at r y)) → IsColumn y f → IsColumn x (unmixed f)
unmixed_of x y f p q = p ∙ ap (λ l. column_of (unmixed (λ r. get_or l r 0))) q
