-- Ciphertexts are as long as bodies, tags have 16 bytes, and both are bytes.
use Rattle.std.proofs.Common.{◌≡◌, ℕ, zero, suc, ◌+◌, ◌*◌, ◌/◌, ◌%◌, ◌<◌, ◌≤◌, Bool, true, false, List, [], ◌∷◌, ◌++◌, length, get_or, refl, ap, ◌∙◌, arith}
use Rattle.std.specs.List.{All}
use Rattle.std.proofs.lemmas.List.Elements.{recursion_from_All, All-from_recursion}
use Rattle.std.proofs.lemmas.Nat.{xor_of_8}
use Rattle.gf2_polynomial.proofs.ByteSums.{All-bytes_sum}
use Rattle.gcm_core.specs.Block.{worth, block_of, low_terms, block_product}
use Rattle.gcm_core.specs.Hash.{hash_of_blocks, ghash, filled}
use Rattle.gcm_core.specs.Counter.{counted, key_stream, counter_mode_from, counter_mode}
use Rattle.gcm_core.specs.Gcm.{first_block, hash_subkey, length_in_bits, ciphered, tag_of, GivesBlocks}
use Rattle.gcm_core.proofs.PolynomialLemmas.{length-remainder}
use Rattle.gcm_core.proofs.BitsLemmas.{length-bits, length-low_terms}
use Rattle.gcm_core.proofs.BlockLemmas.{Bytes}
use Rattle.gcm_core.proofs.CounterLemmas.{length-bytes_sum, length-counter_mode_from}

-- ---- bodies

pub length-ciphered : (e : List ℕ → List ℕ) (iv body : List ℕ) → length (ciphered e iv body) ≡ length body
unfolding ciphered counter_mode
length-ciphered e iv body = length-counter_mode_from e (first_block e iv) 0 body

-- a byte of bytes is a byte, also past their end
Bytes_at : (bytes : List ℕ) (i : ℕ) → Bytes bytes → get_or bytes i 0 < 256
Bytes_at [] i h = omega arith
Bytes_at (b ∷ bytes) zero h = h.0
Bytes_at (b ∷ bytes) (suc i) h = Bytes_at bytes i h.1

module _ (e : List ℕ → List ℕ) (blocks : GivesBlocks e) where
  key_stream_byte : (first : List ℕ) (i : ℕ) → key_stream e first i < 256
  unfolding key_stream
  key_stream_byte first i =
      Bytes_at (e (counted first (i / 16 + 1))) (i % 16) (recursion_from_All (λ byte. byte < 256) (e (counted first (i / 16 + 1)))
      (blocks.bytes (counted first (i / 16 + 1))))

  counter_mode_bytes : (first : List ℕ) (i : ℕ) (bytes : List ℕ) → Bytes bytes → Bytes (counter_mode_from e first i bytes)
  counter_mode_bytes first i [] h = tt
  counter_mode_bytes first i (b ∷ bytes) h =
      (xor_of_8 b (key_stream e first i) h.0 (key_stream_byte first i), counter_mode_bytes first (i + 1) bytes h.1)

  pub ciphered_bytes : (iv body : List ℕ) → All (λ byte. byte < 256) body → All (λ byte. byte < 256) (ciphered e iv body)
  unfolding ciphered counter_mode
  ciphered_bytes iv body h =
      All-from_recursion (λ byte. byte < 256) (ciphered e iv body)
      (counter_mode_bytes (first_block e iv) 0 body (recursion_from_All (λ byte. byte < 256) body h))

-- ---- tags

length-hash_of_blocks : (h : List Bool) (bytes : List ℕ) (n : ℕ) → length (hash_of_blocks h bytes n) ≡ 128
unfolding hash_of_blocks block_product
length-hash_of_blocks h bytes zero = length-bits 128 0
length-hash_of_blocks h bytes (suc n) = length-remainder low_terms _ ∙ length-low_terms

length-block_of : (k : ℕ) (p : List Bool) → length p ≡ 8 * k → length (block_of p) ≡ k
length-block_of zero [] h = refl
length-block_of zero (a ∷ p) h = absurd (omega arith)
length-block_of (suc k) (a ∷ b ∷ c ∷ d ∷ e ∷ f ∷ g ∷ i ∷ p) h = ap suc (length-block_of k p (omega arith))
length-block_of (suc k) _ h = absurd (omega arith)

worth_below : (n : ℕ) (b : Bool) → worth n b ≤ n
worth_below n true = omega arith
worth_below n false = omega arith

block_of_bytes : (k : ℕ) (p : List Bool) → length p ≡ 8 * k → Bytes (block_of p)
block_of_bytes zero [] h = tt
block_of_bytes zero (a ∷ p) h = absurd (omega arith)
block_of_bytes (suc k) (a ∷ b ∷ c ∷ d ∷ e ∷ f ∷ g ∷ i ∷ p) h = (
  omega (
    arith,
    worth_below 128 a,
    worth_below 64 b,
    worth_below 32 c,
    worth_below 16 d,
    worth_below 8 e,
    worth_below 4 f,
    worth_below 2
        g,
    worth_below 1 i,
  ),
  block_of_bytes k p (omega arith),
)
block_of_bytes (suc k) _ h = absurd (omega arith)

module _ (e : List ℕ → List ℕ) (size : (block : List ℕ) → length (e block) ≡ 16) (iv aad ciphertext : List ℕ) where
  pub length-tag_of : length (tag_of e iv aad ciphertext) ≡ 16
  unfolding tag_of
  length-tag_of =
      let bytes : List ℕ = filled aad ++ filled ciphertext ++ (length_in_bits (length aad) ++ length_in_bits (length ciphertext)) in
      let whole : length (block_of (ghash (hash_subkey e) bytes)) ≡ 16 =
      length-block_of 16 (ghash (hash_subkey e) bytes) (length-hash_of_blocks (hash_subkey e) bytes (length bytes / 16)) in
      length-bytes_sum (e (first_block e iv)) (block_of (ghash (hash_subkey e) bytes)) (omega (arith, size (first_block e iv)))
      ∙ size (first_block e iv)

module _ (e : List ℕ → List ℕ) (iv aad ciphertext : List ℕ) (blocks : GivesBlocks e) where
  pub tag_of_bytes : All (λ byte. byte < 256) (tag_of e iv aad ciphertext)
  unfolding tag_of
  tag_of_bytes =
      let bytes : List ℕ = filled aad ++ filled ciphertext ++ (length_in_bits (length aad) ++ length_in_bits (length ciphertext)) in
      All-bytes_sum (e (first_block e iv)) (block_of (ghash (hash_subkey e) bytes)) (blocks.bytes (first_block e iv))
      (All-from_recursion (λ byte. byte < 256) (block_of (ghash (hash_subkey e) bytes))
      (block_of_bytes 16 (ghash (hash_subkey e) bytes) (length-hash_of_blocks (hash_subkey e) bytes (length bytes / 16))))
