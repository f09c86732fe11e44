-- What was read so far was taken from the input, no bundle has ended in it, and no read failed.
use Rattle.std.proofs.Common.{◌≡◌, ◌+◌, ◌-◌}
use Rattle.cbor_profile.specs.declared.TheConstants.{BUNDLE_LIMIT}
use Rattle.bp_bundle.specs.WholeInput.{HasTaken, count}
use Rattle.bp_bundle.proofs.whole_input.read_one.Given as goal

abbrev pub invariant-loop-reader : goal.invariant-loop-reader
invariant-loop-reader g l = record {
  taken : HasTaken (g.S.Source.left l.initial.source) (g.S.Source.left l.source) l.reader;
  quiet : g.S.Source.faults l.source ≡ g.S.Source.faults l.initial.source;
  steady : g.S.Source.steady l.initial.source → g.S.Source.steady l.source;
}

abbrev pub decreases-loop-reader : goal.decreases-loop-reader
decreases-loop-reader g l = BUNDLE_LIMIT + 8 - count l.reader
