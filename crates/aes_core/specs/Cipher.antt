-- The cipher and its inverse (FIPS 197, sections 5.1 and 5.3).
use Rattle.std.specs.Prelude.{ℕ, zero, suc, ◌+◌, ◌-◌, List}
use Rattle.aes_core.specs.State.{sub_bytes, shift_rows, mix_columns, add_round_key, inverse_sub_bytes, inverse_shift_rows, inverse_mix_columns}
use Rattle.aes_core.specs.KeyExpansion.{key_expansion}

-- the state s after the rounds 1 to n, with the expanded key w
unfoldable pub rounds : List ℕ → ℕ → List ℕ → List ℕ
rounds w zero s = s
rounds w (suc n) s = add_round_key w (suc n) (mix_columns (shift_rows (sub_bytes (rounds w n s))))

-- a block through nr rounds, with the expanded key w: the last round has no multiplication (5.1, algorithm 1)
unfoldable pub encryption : List ℕ → ℕ → List ℕ → List ℕ
encryption w nr block =
    add_round_key w nr (shift_rows (sub_bytes (rounds w (nr - 1) (add_round_key w 0 block))))

-- AES of a block of 16 bytes, under a key of nk words: nk + 6 rounds with the expanded key (5.1)
unfoldable pub cipher : ℕ → List ℕ → List ℕ → List ℕ
cipher nk key block = encryption (key_expansion nk key) (nk + 6) block

-- the state s after the inverses of the rounds n to 1, with the expanded key w
unfoldable pub inverse_rounds : List ℕ → ℕ → List ℕ → List ℕ
inverse_rounds w zero s = s
inverse_rounds w (suc n) s =
    inverse_rounds w n (inverse_mix_columns (add_round_key w (suc n) (inverse_sub_bytes (inverse_shift_rows s))))

-- a block back through nr rounds, with the expanded key w (5.3, algorithm 3)
unfoldable pub decryption : List ℕ → ℕ → List ℕ → List ℕ
decryption w nr block =
    add_round_key w 0 (inverse_sub_bytes (inverse_shift_rows (inverse_rounds w (nr - 1) (add_round_key w nr block))))

-- the inverse of AES of a block of 16 bytes, under a key of nk words (5.3)
unfoldable pub inverse_cipher : ℕ → List ℕ → List ℕ → List ℕ
inverse_cipher nk key block = decryption (key_expansion nk key) (nk + 6) block
