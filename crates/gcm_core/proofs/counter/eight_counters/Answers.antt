use Rattle.std.proofs.Common.{arith}
use Rattle.gcm_core.proofs.CounterLemmas.{counters_are}
use Rattle.gcm_core.proofs.counter.eight_counters.Goals as goal

pub returns : goal.returns
returns c =
    counters_are c.loop-place.counters c.args.first.now c.args.done c.loop-place.place (omega arith) c.loop-place.invariant.0
    c.loop-place.invariant.1
