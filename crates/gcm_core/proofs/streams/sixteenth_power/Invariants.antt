use Rattle.std.proofs.Common.{◌≡◌}
use Rattle.gcm_core.specs.Block.{bits}
use Rattle.gcm_core.specs.Hash.{times_power}
use Rattle.gcm_core.proofs.streams.sixteenth_power.Given as goal

abbrev pub invariant-loop-times : goal.invariant-loop-times
invariant-loop-times l = bits 128 l.power ≡ times_power l.subkey l._times l.subkey
