-- AES-GCM over the block cipher e under one key (NIST SP 800-38D, section 7).
use Rattle.std.specs.Prelude.{◌≡◌, ℕ, ◌*◌, ◌<◌, ◌==◌, Bool, if◌then◌else◌, List, [], ◌∷◌, ◌++◌, length, replicate, All}
use Rattle.std.specs.Int.{w64, to_be_bytes}
use Rattle.gcm_core.specs.Block.{polynomial_of, block_of}
use Rattle.gcm_core.specs.Hash.{ghash, filled}
use Rattle.gcm_core.specs.Counter.{counter_mode, bytes_sum}

-- The length in bits of n bytes, as 8 bytes. From 2 ^ 61 bytes on, which no memory holds, the standard has none.
unfoldable pub length_in_bits : ℕ → List ℕ
length_in_bits n = to_be_bytes w64 (8 * n)

-- the subkey of GHASH: the encrypted zero block (7.1, step 1)
abbrev pub hash_subkey : (List ℕ → List ℕ) → List Bool
hash_subkey e = polynomial_of (e (replicate 16 0))

-- the block before the first counter, J0 (7.1, step 2)
unfoldable pub first_block : (List ℕ → List ℕ) → List ℕ → List ℕ
first_block e iv =
    if length iv == 12 then iv ++ 0 ∷ 0 ∷ 0 ∷ 1 ∷ []
    else block_of (ghash (hash_subkey e) (filled iv ++ (replicate 8 0 ++ length_in_bits (length iv))))

-- the body under an initialisation vector, which is its own inverse (7.1, step 3; 7.2, step 4)
unfoldable pub ciphered : (List ℕ → List ℕ) → List ℕ → List ℕ → List ℕ
ciphered e iv body = counter_mode e (first_block e iv) body

-- the authentication tag of a ciphertext and its additional data (7.1, steps 4 to 6)
unfoldable pub tag_of : (List ℕ → List ℕ) → List ℕ → List ℕ → List ℕ → List ℕ
tag_of e iv aad ciphertext =
    bytes_sum (e (first_block e iv))
    (block_of (ghash (hash_subkey e) (filled aad ++ filled ciphertext ++ (length_in_bits (length aad) ++ length_in_bits (length ciphertext)))))

-- sealing the body gives this ciphertext and this tag
pub record Seals (e : List ℕ → List ℕ) (iv aad body ciphertext tag : List ℕ) : Type 0 where
  pub ciphertext_is : ciphertext ≡ ciphered e iv body
  pub tag_is : tag ≡ tag_of e iv aad ciphertext

-- the cipher gives 16 bytes, whatever it is given
pub record GivesBlocks (e : List ℕ → List ℕ) : Type 0 where
  pub size : (block : List ℕ) → length (e block) ≡ 16
  pub bytes : (block : List ℕ) → All (λ byte. byte < 256) (e block)
