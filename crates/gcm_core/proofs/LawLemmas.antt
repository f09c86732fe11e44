-- Counter mode is its own inverse, so what was sealed is what is opened.
use Rattle.std.proofs.Common.{◌≡◌, ℕ, ◌+◌, ◌↔◌, List, [], ◌∷◌, bit_xor, refl, sym, ap, ◌∙◌}
use Rattle.std.specs.Int.Bits.{xor_assoc, xor_self, xor_zero_r}
use Rattle.gcm_core.specs.Counter.{key_stream, counter_mode_from, counter_mode}
use Rattle.gcm_core.specs.Gcm.{first_block, ciphered, tag_of, Seals}

xor_twice : (x k : ℕ) → bit_xor (bit_xor x k) k ≡ x
xor_twice x k = xor_assoc x k k ∙ ap (bit_xor x) (xor_self k) ∙ xor_zero_r x

counter_mode_from_twice : (e : List ℕ → List ℕ) (first : List ℕ) (i : ℕ) (bytes : List ℕ)
    → counter_mode_from e first i (counter_mode_from e first i bytes) ≡ bytes
counter_mode_from_twice e first i [] = refl
counter_mode_from_twice e first i (x ∷ bytes) = rw (xor_twice x (key_stream e first i), counter_mode_from_twice e first (i + 1) bytes) refl

pub ciphered_twice : (e : List ℕ → List ℕ) (iv body : List ℕ) → ciphered e iv (ciphered e iv body) ≡ body
unfolding ciphered counter_mode
ciphered_twice e iv body = counter_mode_from_twice e (first_block e iv) 0 body

pub opened_is_sealed : (e : List ℕ → List ℕ) (iv aad ciphertext tag body : List ℕ) → tag ≡ tag_of e iv aad ciphertext
    → (body ≡ ciphered e iv ciphertext) ↔ Seals e iv aad body ciphertext tag
opened_is_sealed e iv aad ciphertext tag body t = (
  λ b. record { ciphertext_is = sym (ciphered_twice e iv ciphertext) ∙ ap (ciphered e iv) (sym b); tag_is = t },
  λ s. sym (ciphered_twice e iv body) ∙ ap (ciphered e iv) (sym s.ciphertext_is),
)

pub sealed_is_opened : (e : List ℕ → List ℕ) (iv aad body ciphertext tag : List ℕ) → Seals e iv aad body ciphertext tag
    → (tag ≡ tag_of e iv aad ciphertext) × (ciphered e iv ciphertext ≡ body)
sealed_is_opened e iv aad body ciphertext tag s = (s.tag_is, ap (ciphered e iv) s.ciphertext_is ∙ ciphered_twice e iv body)
