-- Working keys (RFC 9173, sections 3.3.2 and 4.3.3; RFC 3394). Where a wrapped key stands among the parameters, the key is the
-- key-encryption key, and the unwrapped bytes are the working key. Else the key is the working key.
use Rattle.std.specs.Prelude.{ℕ, ◌-◌, ◌/◌, Bool, false, not, ◌==◌, ◌||◌, List, length, bytes_eq, Option, Some, None}
use Rattle.key_wrap.specs.KeyWrap.{Registers, initial_value, unwrap}

-- a key-encryption key is a key of AES-128 or AES-256: 4 or 8 words of four bytes
abbrev pub words : List ℕ → ℕ
words key = length key / 4

abbrev pub is_encryption_key : List ℕ → Bool
is_encryption_key key = (length key == 16) || (length key == 32)

unfoldable pub unwrapped : List ℕ → List ℕ → Registers
unwrapped key wrapped = unwrap (words key) key wrapped

abbrev pub working_key : Option (List ℕ) → List ℕ → List ℕ
working_key None key = key
working_key (Some wrapped) key = (unwrapped key wrapped).groups

-- how many bytes it has, before it is unwrapped
abbrev pub working_length : Option (List ℕ) → List ℕ → ℕ
working_length None key = length key
working_length (Some wrapped) key = length wrapped - 8

-- a key that is to unwrap has another length than a key-encryption key has
abbrev pub cannot_unwrap : Option (List ℕ) → List ℕ → Bool
cannot_unwrap None key = false
cannot_unwrap (Some wrapped) key = not (is_encryption_key key)

-- unwrapping gives another initial value (RFC 3394, section 2.2.3)
abbrev pub refuses : Option (List ℕ) → List ℕ → Bool
refuses None key = false
refuses (Some wrapped) key = not (bytes_eq (unwrapped key wrapped).check initial_value)
