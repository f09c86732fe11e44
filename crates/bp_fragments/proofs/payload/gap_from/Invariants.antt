use Rattle.std.proofs.Common.{◌≡◌, ℕ, ◌-◌, ◌<◌, ◌≤◌, true}
use Rattle.bp_fragments.specs.Spans.{is_covered}
use Rattle.bp_fragments.proofs.payload.gap_from.Given as goal

abbrev pub invariant-places : goal.invariant-places
invariant-places l = record { within : l.place ≤ l.len; covered : (k : ℕ) → k < l.place → is_covered l.covered k ≡ true }

abbrev pub decreases-places : goal.decreases-places
decreases-places l = l.len - l.place
