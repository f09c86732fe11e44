-- A parameter that is a number is read as that number.
use Rattle.std.proofs.Common.{◌≡◌, ℕ, ◌^◌, ◌<◌, List, refl}
use Rattle.std.specs.Prelude.{Some, Ok}
use Rattle.cbor_profile.specs.Put.{uint}
use Rattle.bpsec_asb.specs.declared.asb.Pair.{Pair}
use Rattle.bpsec_context.specs.Values.{number_of}
use Rattle.bpsec_context.specs.Pairs.{given, value_at}

-- the law of numbers
abbrev pub NumbersAgain : Type 0
NumbersAgain = (n : ℕ) → n < 2 ^ 64 → number_of (uint n) ≡ Some n

pub number_given : NumbersAgain → (id n : ℕ) (pairs : List Pair) → n < 2 ^ 64 → value_at id pairs ≡ Ok (Some (uint n)) → given number_of id pairs ≡ Ok (Some n)
number_given law id n pairs small at = rw (at, law n small) refl
