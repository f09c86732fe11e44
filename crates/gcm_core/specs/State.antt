-- What a sealer has taken of the additional data (NIST SP 800-38D, section 7.1).
use Rattle.std.specs.Prelude.{◌≡◌, ℕ, ◌-◌, ◌*◌, ◌/◌, ◌%◌, ◌^◌, ◌≤◌, List, length, take, drop}
use Rattle.aes_core.specs.Cipher.{cipher}
use Rattle.gcm_core.specs.Hash.{Hashes}
use Rattle.gcm_core.specs.Gcm.{hash_subkey}

-- the key's bytes, the hash of the whole blocks, the bytes after them, and how many bytes there were
pub record GcmState : Type 0 where
  pub key : List ℕ
  pub hash : ℕ
  pub rest : List ℕ
  pub fed : ℕ

-- how many bytes stand in whole blocks
abbrev pub whole_len : List ℕ → ℕ
whole_len bytes = 16 * (length bytes / 16)

-- The state, with an AES key of nk words, has taken exactly these bytes, however they were cut. The standard allows
-- 2 ^ 64 - 1 bits of them (5.2.1.1).
pub record HasTaken (nk : ℕ) (state : GcmState) (aad : List ℕ) : Type 0 where
  pub within : length aad ≤ 2 ^ 61 - 1
  pub count : state.fed ≡ length aad
  pub hashed : Hashes (hash_subkey (cipher nk state.key)) (take (whole_len aad) aad) state.hash
  pub kept : take (length aad % 16) state.rest ≡ drop (whole_len aad) aad
