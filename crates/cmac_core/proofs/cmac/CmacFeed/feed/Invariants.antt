use Rattle.std.proofs.Common.{◌≡◌, ℕ, List, ◌++◌, take}
use Rattle.cmac_core.specs.State.{HasTaken}
use Rattle.cmac_core.proofs.cmac.CmacFeed.feed.Given as goal

abbrev pub invariant-loop-byte : goal.invariant-loop-byte
invariant-loop-byte g l = record {
  taken : (message : List ℕ) → HasTaken g.row.NK l.fn.self message → HasTaken g.row.NK l.self (message ++ take l.byte-index l.piece);
  key : l.self.key ≡ l.fn.self.key;
}
