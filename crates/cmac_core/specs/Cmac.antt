-- CMAC over the block cipher e under one key (RFC 4493, section 2).
use Rattle.std.specs.Prelude.{ℕ, zero, suc, ◌+◌, ◌-◌, ◌*◌, ◌/◌, ◌==◌, max, if◌then◌else◌, List, ◌∷◌, ◌++◌, length, take, drop, replicate}
use Rattle.gf2_polynomial.specs.Bytes.{bytes_sum}
use Rattle.cmac_core.specs.Field.{times_x}

-- ---- the subkeys (2.3)

-- K1 = x L, where L is the encrypted zero block
unfoldable pub first_subkey : (List ℕ → List ℕ) → List ℕ
first_subkey e = times_x (e (replicate 16 0))

-- K2 = x K1
unfoldable pub second_subkey : (List ℕ → List ℕ) → List ℕ
second_subkey e = times_x (first_subkey e)

-- ---- the blocks (2.4, steps 2 to 4)

-- how many blocks of 16 bytes a message has: the empty message has one, which is empty
abbrev pub count_of_blocks : List ℕ → ℕ
count_of_blocks message = max 1 ((length message + 15) / 16)

-- block n of the message, from 0; the last one may be shorter
abbrev pub block_at : List ℕ → ℕ → List ℕ
block_at message n = take 16 (drop (16 * n) message)

-- a short block, completed: one bit 1, and bits 0
abbrev pub padded : List ℕ → List ℕ
padded block = block ++ 0x80 ∷ replicate (15 - length block) 0

-- the last block: the first subkey is added to a whole one, and the second to a completed one
unfoldable pub last_block : (List ℕ → List ℕ) → List ℕ → List ℕ
last_block e block = if length block == 16 then bytes_sum block (first_subkey e) else bytes_sum (padded block) (second_subkey e)

-- ---- the tag (2.4, steps 5 to 7)

-- X after n blocks: it begins as zero, and each block M takes it to the encryption of X + M
unfoldable pub chained : (List ℕ → List ℕ) → List ℕ → ℕ → List ℕ
chained e message zero = replicate 16 0
chained e message (suc n) = e (bytes_sum (chained e message n) (block_at message n))

-- the tag of a message: X after its last block
unfoldable pub cmac : (List ℕ → List ℕ) → List ℕ → List ℕ
cmac e message =
    let before : ℕ = count_of_blocks message - 1 in e (bytes_sum (chained e message before) (last_block e (block_at message before)))
