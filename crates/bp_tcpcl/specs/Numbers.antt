-- Numbers in network order.
use Rattle.std.specs.Prelude.{ℕ, nat_lt, if◌then◌else◌, List, length, take, Option, Some, None}
use Rattle.std.specs.Int.{Width, byte_len, to_be_bytes, from_be_bytes}

-- a number in as many bytes as a width has
unfoldable pub number : Width → ℕ → List ℕ
number w n = to_be_bytes w n

-- the number at the front, if all its bytes are there
unfoldable pub number_in : Width → List ℕ → Option ℕ
number_in w bytes = if nat_lt (length bytes) (byte_len w) then None else Some (from_be_bytes w (take (byte_len w) bytes))
