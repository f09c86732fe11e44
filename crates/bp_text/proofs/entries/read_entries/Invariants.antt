use Rattle.std.proofs.Common.{◌≡◌, ◌+◌, ℕ, List, map, take, drop}
use Rattle.serde_json.specs.View.{view}
use Rattle.bp_text.specs.Names.{AreKnown}
use Rattle.bp_text.specs.Entries.{entries_at, taken_by}
use Rattle.bp_text.proofs.EntriesInTurn.{with_front}
use Rattle.bp_text.proofs.entries.read_entries.Given as goal

-- what was read and what is left give what all gives
abbrev pub invariant-loop-value : goal.invariant-loop-value
invariant-loop-value g l =
    let read = g.E.Entry.reads l.version in
    let ds = map view l.values in
    let now = λ (taken : List (List ℕ)). taken_by taken (take l.value-index ds) in
    record {
      at : l.index ≡ l.first + l.value-index;
      known : (taken : List (List ℕ)) → AreKnown l.fn.names taken → AreKnown l.names (now taken);
      same : (taken : List (List ℕ)) → AreKnown l.fn.names taken
          → with_front l.entries (entries_at read l.index (now taken) (drop l.value-index ds)) ≡ entries_at read l.first taken ds;
    }
