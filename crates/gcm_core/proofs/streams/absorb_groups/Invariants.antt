use Rattle.gcm_core.proofs.GroupLemmas.{Groups}
use Rattle.gcm_core.proofs.streams.absorb_groups.Given as goal

abbrev pub invariant-loop-group : goal.invariant-loop-group
invariant-loop-group l = Groups l.subkey l.bytes l.hash l.group l.streams
