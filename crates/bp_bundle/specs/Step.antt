-- What a step of reading returned.
use Rattle.std.specs.Prelude.{◌≡◌, Result, Err}
use Rattle.cbor_profile.specs.declared.fault.Fault.{Fault}
use Rattle.cbor_profile.specs.declared.fault.SpellError.{SpellError}
use Rattle.cbor_profile.specs.declared.fault.SpellError.TheVariants as errors
use Rattle.bp_bundle.specs.declared.at.At.{At}
use Rattle.bp_bundle.specs.declared.front.Ids.{Ids}
use Rattle.bp_bundle.specs.declared.front.Clock.{Clock}
use Rattle.bp_bundle.specs.Tokens.{Cursor}
use Rattle.bp_bundle.specs.FirstFault.{Nodes, Times}

-- where the code stands, without where the bytes lie in memory
abbrev pub seen : At → Cursor
seen here = record { at = here.place; rest = here.rest.now }

-- the ids and the times of a primary block, as the code keeps them
abbrev pub nodes_seen : Ids → Nodes
nodes_seen ids = record { destination = ids.destination; source = ids.source; report_to = ids.report_to }

abbrev pub times_seen : Clock → Times
times_seen clock = record { created = clock.created; sequence = clock.sequence; lifetime = clock.lifetime }

-- a fault is that of reading; memory may run out in each case
abbrev pub Fails : {Y : Type 0} → SpellError → Result Y Fault → Type 0
Fails errors.NoMemory read = Unit {0}
Fails (errors.Fault fault) read = read ≡ Err fault
