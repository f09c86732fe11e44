-- What a feed of CMAC has taken.
use Rattle.std.specs.Prelude.{◌≡◌, ℕ, ◌-◌, ◌*◌, List, length, take, drop}
use Rattle.aes_core.specs.Cipher.{cipher}
use Rattle.cmac_core.specs.Cmac.{count_of_blocks, chained}

-- the key's bytes, X after the blocks that were enciphered, an array whose front is kept back, and how many bytes are
pub record CmacState : Type 0 where
  pub key : List ℕ
  pub chain : List ℕ
  pub kept : List ℕ
  pub used : ℕ

-- how many blocks come before the last one
abbrev pub before_last : List ℕ → ℕ
before_last message = count_of_blocks message - 1

-- The state, with an AES key of nk words, has taken exactly these bytes, however they were cut: X is that after the blocks before the last one, and the
-- last one is kept back.
pub record HasTaken (nk : ℕ) (state : CmacState) (message : List ℕ) : Type 0 where
  pub chain : state.chain ≡ chained (cipher nk state.key) message (before_last message)
  pub count : state.used ≡ length message - 16 * before_last message
  pub kept : take state.used state.kept ≡ drop (16 * before_last message) message
