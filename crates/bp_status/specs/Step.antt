-- What a step of reading returned.
use Rattle.std.specs.Prelude.{◌≡◌, Result, Err}
use Rattle.bp_eid.specs.declared.stop.Stop.{Stop}
use Rattle.bp_eid.specs.declared.stop.ReadError.{ReadError}
use Rattle.bp_eid.specs.declared.stop.ReadError.TheVariants as errors

-- it stops where reading does; want of memory says nothing
abbrev pub Fails : {Y : Type 0} → ReadError → Result Y Stop → Type 0
Fails errors.NoMemory read = Unit {0}
Fails (errors.Stop stop) read = read ≡ Err stop
