-- What the functions on pairs return.
use Rattle.std.specs.Prelude.{◌≡◌, Option, Result, Ok, Err}
use Rattle.bpsec_context.specs.declared.pairs.Malformed.{Malformed}
use Rattle.bpsec_context.specs.Pairs.{Given}

-- it is what the definition gives, seen by `view`
abbrev pub IsGiven : {X Y : Type 0} → (Option X → Option Y) → Result (Option X) Malformed → Given Y → Type 0
IsGiven view (Ok value) given = given ≡ Ok (view value)
IsGiven view (Err e) given = given ≡ Err e
