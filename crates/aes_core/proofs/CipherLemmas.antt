-- The cipher under a key: decryption undoes encryption, and a block has 16 bytes.
use Rattle.std.proofs.Common.{◌≡◌, ℕ, ◌+◌, ◌<◌, List, All, length}
use Rattle.aes_core.specs.KeyExpansion.{IsKey, key_expansion}
use Rattle.aes_core.specs.Cipher.{cipher, inverse_cipher}
use Rattle.aes_core.proofs.StateLemmas.{Bytes}
use Rattle.aes_core.proofs.KeyLemmas.{Bytes-from_All, All-from_Bytes, Bytes-key_expansion}
use Rattle.aes_core.proofs.RoundLemmas.{decryption-encryption, length-encryption, length-decryption, Bytes-encryption, Bytes-decryption}

Bytes-expanded : (nk : ℕ) (key : List ℕ) → IsKey nk key → Bytes (key_expansion nk key)
Bytes-expanded nk key k = Bytes-key_expansion nk key (Bytes-from_All key k.has_bytes)

pub inverse_cipher-cipher : (nk : ℕ) (key block : List ℕ) → IsKey nk key → length block ≡ 16 → All (λ b. b < 256) block → inverse_cipher nk key (cipher nk key block) ≡ block
unfolding cipher inverse_cipher
inverse_cipher-cipher nk key block k e b =
    decryption-encryption (key_expansion nk key) (nk + 6) block (Bytes-expanded nk key k) (record { sixteen = e; bytes = Bytes-from_All block b })

pub length-cipher : (nk : ℕ) (key block : List ℕ) → length (cipher nk key block) ≡ 16
unfolding cipher
length-cipher nk key block = length-encryption (key_expansion nk key) (nk + 6) block

pub All-cipher : (nk : ℕ) (key block : List ℕ) → IsKey nk key → All (λ b. b < 256) (cipher nk key block)
unfolding cipher
All-cipher nk key block k = All-from_Bytes _ (Bytes-encryption (key_expansion nk key) (nk + 6) block (Bytes-expanded nk key k))

pub length-inverse_cipher : (nk : ℕ) (key block : List ℕ) → length (inverse_cipher nk key block) ≡ 16
unfolding inverse_cipher
length-inverse_cipher nk key block = length-decryption (key_expansion nk key) (nk + 6) block

pub All-inverse_cipher : (nk : ℕ) (key block : List ℕ) → IsKey nk key → All (λ b. b < 256) (inverse_cipher nk key block)
unfolding inverse_cipher
All-inverse_cipher nk key block k = All-from_Bytes _ (Bytes-decryption (key_expansion nk key) (nk + 6) block (Bytes-expanded nk key k))
