-- What was looked at so far is covered, apart or by the span that grows.
use Rattle.std.proofs.Common.{◌≡◌, ℕ, ◌≤◌, ◌||◌, take}
use Rattle.bp_fragments.specs.Spans.{is_in, is_covered, AreWithin}
use Rattle.bp_fragments.proofs.spans.merged.Given as goal

abbrev pub invariant-loop-span : goal.invariant-loop-span
invariant-loop-span l = record {
  covers : (place : ℕ) → (is_covered l.apart place || is_in l.whole place) ≡ (is_covered (take l.span-index l.spans) place || is_in l.fn.more place);
  within : (len : ℕ) → AreWithin l.spans len → l.fn.more.to ≤ len → AreWithin l.apart len × (l.whole.to ≤ len);
}
