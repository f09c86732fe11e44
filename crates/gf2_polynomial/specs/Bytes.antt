-- Lists of bytes as coefficients, eight to a byte.
use Rattle.std.specs.Prelude.{ℕ, List, [], ◌∷◌, bit_xor}

-- two lists of bytes added bit by bit, as far as both go
abbrev pub bytes_sum : List ℕ → List ℕ → List ℕ
bytes_sum [] b = []
bytes_sum (x ∷ a) [] = []
bytes_sum (x ∷ a) (y ∷ b) = bit_xor x y ∷ bytes_sum a b
