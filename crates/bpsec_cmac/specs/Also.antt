-- A suite with one more context for integrity.
use Rattle.std.specs.Prelude.{ℤ, Bool}
use Rattle.std.specs.Ordering.{int_eq}

-- whether the context is the further one, of this id
unfoldable pub is_further : ℤ → ℤ → Bool
is_further id context = int_eq context id
