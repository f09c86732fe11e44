-- What was read so far waits or was taken, no bundle has ended in it, and no read failed.
use Rattle.std.proofs.Common.{◌≡◌, ◌+◌, ◌-◌}
use Rattle.cbor_profile.specs.declared.TheConstants.{BUNDLE_LIMIT}
use Rattle.bp_bundle.proofs.NextBundle.{Going}
use Rattle.bp_bundle.proofs.in_turn.read_next.Given as goal

abbrev pub invariant-loop-reader : goal.invariant-loop-reader
invariant-loop-reader g l = record {
  going : Going l.initial.window (g.S.Source.left l.initial.source) l.window (g.S.Source.left l.source) l.reader l.count;
  quiet : g.S.Source.faults l.source ≡ g.S.Source.faults l.initial.source;
  steady : g.S.Source.steady l.initial.source → g.S.Source.steady l.source;
}

abbrev pub decreases-loop-reader : goal.decreases-loop-reader
decreases-loop-reader g l = BUNDLE_LIMIT + 8 - l.count
