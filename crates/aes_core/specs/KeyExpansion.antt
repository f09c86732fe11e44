-- The expansion of a key into the words of the round keys (FIPS 197, section 5.2). A word is a list of four bytes.
use Rattle.std.specs.Prelude.{◌≡◌, ℕ, zero, suc, ◌+◌, ◌-◌, ◌*◌, ◌/◌, ◌%◌, ◌<◌, ◌==◌, ◌||◌, ◌&&◌, List, [], ◌∷◌, ◌++◌, IsTrue, All, length, bit_xor, slice_index, if◌then◌else◌}
use Rattle.aes_core.specs.Field.{power}
use Rattle.aes_core.specs.Boxes.{sub_byte}

-- a key has nk words: 4 for AES-128, and 8 for AES-256 (5, table 3)
abbrev pub IsKeySize : ℕ → Type 0
IsKeySize nk = IsTrue ((nk == 4) || (nk == 8))

-- the bytes of a key of nk words
pub record IsKey (nk : ℕ) (key : List ℕ) : Type 0 where
  pub has_size : IsKeySize nk
  pub has_length : length key ≡ 4 * nk
  pub has_bytes : All (λ b. b < 256) key

-- word i of a list of bytes
abbrev pub word_at : List ℕ → ℕ → List ℕ
word_at w i =
    slice_index w (4 * i) ∷ slice_index w (4 * i + 1) ∷ slice_index w (4 * i + 2) ∷ slice_index w (4 * i + 3) ∷ []

-- the sum of two words
abbrev pub add_words : List ℕ → List ℕ → List ℕ
add_words a b =
    bit_xor (slice_index a 0) (slice_index b 0) ∷ bit_xor (slice_index a 1) (slice_index b 1)
    ∷ bit_xor (slice_index a 2) (slice_index b 2) ∷ bit_xor (slice_index a 3) (slice_index b 3) ∷ []

-- the word turned to the left by one byte (ROTWORD)
abbrev pub rot_word : List ℕ → List ℕ
rot_word a = slice_index a 1 ∷ slice_index a 2 ∷ slice_index a 3 ∷ slice_index a 0 ∷ []

-- each byte of the word through the S-box (SUBWORD)
abbrev pub sub_word : List ℕ → List ℕ
sub_word a =
    sub_byte (slice_index a 0) ∷ sub_byte (slice_index a 1) ∷ sub_byte (slice_index a 2) ∷ sub_byte (slice_index a 3) ∷ []

-- the round constant j, from 1 on: x^(j - 1) and three zeros (5.2, table 5)
abbrev pub round_constant : ℕ → List ℕ
round_constant j = power 2 (j - 1) ∷ 0 ∷ 0 ∷ 0 ∷ []

-- what word i - nk has added to it to make word i, from the word before it
unfoldable pub word_term : ℕ → ℕ → List ℕ → List ℕ
word_term nk i previous =
    if i % nk == 0 then add_words (sub_word (rot_word previous)) (round_constant (i / nk))
    else (if (nk == 8) && (i % nk == 4) then sub_word previous else previous)

-- word i, from the words before it
unfoldable pub next_word : ℕ → ℕ → List ℕ → List ℕ
next_word nk i w = add_words (word_at w (i - nk)) (word_term nk i (word_at w (i - 1)))

-- the key and n words after it
unfoldable pub extended_key : ℕ → List ℕ → ℕ → List ℕ
extended_key nk key zero = key
extended_key nk key (suc n) = extended_key nk key n ++ next_word nk (nk + n) (extended_key nk key n)

-- the expanded key: 4 words for each of nk + 7 round keys, of which the first nk words are the key (KEYEXPANSION)
unfoldable pub key_expansion : ℕ → List ℕ → List ℕ
key_expansion nk key = extended_key nk key (4 * (nk + 7) - nk)
