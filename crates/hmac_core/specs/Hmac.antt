-- HMAC over any hash function (RFC 2104, section 2).
use Rattle.std.specs.Prelude.{ℕ, ◌-◌, nat_lt, if◌then◌else◌, List, ◌++◌, length, map, replicate, bit_xor}

-- A key as one block of the hash: a key longer than a block is hashed first, and then filled with zero bytes.
unfoldable pub block_key : (List ℕ → List ℕ) → ℕ → List ℕ → List ℕ
block_key hash block key =
    let short = if nat_lt block (length key) then hash key else key in short ++ replicate (block - length short) 0

-- a block with each byte xored with this one
abbrev pub padded : ℕ → List ℕ → List ℕ
padded pad block = map (λ byte. bit_xor byte pad) block

abbrev pub inner_pad : ℕ
inner_pad = 0x36

abbrev pub outer_pad : ℕ
outer_pad = 0x5c

-- the authentication code of a message, under a key that is one block
unfoldable pub code_under : (List ℕ → List ℕ) → List ℕ → List ℕ → List ℕ
code_under hash block message = hash (padded outer_pad block ++ hash (padded inner_pad block ++ message))

-- the authentication code of a message: of a hash function, the length of its blocks, a key and a message
unfoldable pub hmac : (List ℕ → List ℕ) → ℕ → List ℕ → List ℕ → List ℕ
hmac hash block key message = code_under hash (block_key hash block key) message
