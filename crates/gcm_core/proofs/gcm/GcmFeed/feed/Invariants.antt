use Rattle.std.proofs.Common.{◌≡◌, ℕ, List, ◌+◌, ◌-◌, ◌^◌, ◌≤◌, ◌++◌, length, take}
use Rattle.gcm_core.specs.State.{HasTaken}
use Rattle.gcm_core.proofs.gcm.GcmFeed.feed.Given as goal

abbrev pub invariant-loop-byte : goal.invariant-loop-byte
invariant-loop-byte g l = record {
  taken : (aad : List ℕ) → HasTaken g.row.NK l.fn.self aad → length aad + l.byte-index ≤ 2 ^ 61 - 1
      → HasTaken g.row.NK l.self (aad ++ take l.byte-index l.piece);
  key : l.self.key ≡ l.fn.self.key;
}
