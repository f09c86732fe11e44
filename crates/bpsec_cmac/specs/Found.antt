-- How an id stands in a list, as the code finds it.
use Rattle.std.specs.Prelude.{◌≡◌, ℕ, List, Some, None, Ok, Err}
use Rattle.bpsec_context.specs.Pairs.{Given}
use Rattle.bpsec_cmac.specs.declared.reading.Found.{Found}
use Rattle.bpsec_cmac.specs.declared.reading.Found.TheVariants.{Absent, Once, Twice}

-- it is what the definition gives
abbrev pub Finds : Found → Given (List ℕ) → Type 0
Finds Absent given = given ≡ Ok None
Finds (Once value) given = given ≡ Ok (Some value.now)
Finds Twice given = given ≡ Err (record {})
