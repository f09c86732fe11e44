-- The fragments so far, of which the first isn't too long.
use Rattle.std.proofs.Common.{◌≡◌, ◌<◌, ◌≤◌, map, length}
use Rattle.cbor_profile.specs.declared.TheConstants.{BUNDLE_LIMIT}
use Rattle.bp_bundle.specs.Spelling.{spelling}
use Rattle.bp_fragments.specs.Cut.{below, fragment_at}
use Rattle.bp_fragments.proofs.cut.all_fragments.Given as goal

abbrev pub invariant-loop-index : goal.invariant-loop-index
invariant-loop-index l = record {
  made : l.fragments ≡ map (fragment_at l.bundle l.size) (below l.index);
  first : 0 < l.index → length (spelling (fragment_at l.bundle l.size 0)) ≤ BUNDLE_LIMIT;
}
