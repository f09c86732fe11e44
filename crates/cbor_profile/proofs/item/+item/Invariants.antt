-- An item is read by its content, the content of an array by its items with one level less, and items one by one.
use Rattle.std.proofs.Common.{◌≡◌, ◌+◌, ◌*◌, ◌-◌, ◌≤◌, length}
use Rattle.cbor_profile.specs.Item.{each_from, item_from}
use Rattle.cbor_profile.proofs.item.+item.Given as goal

abbrev pub decreases-item : goal.decreases-item
decreases-item l = 3 * l.levels + 1

abbrev pub decreases-content : goal.decreases-content
decreases-content l = 3 * l.levels

abbrev pub decreases-items : goal.decreases-items
decreases-items l = 3 * l.levels + 2

abbrev pub invariant-items-loop : goal.invariant-items-loop
invariant-items-loop l = record {
  shorter : length l.rest ≤ length l.bytes;
  same : each_from (item_from l.levels) (l.count - l.counter) l.rest ≡ each_from (item_from l.levels) l.count l.bytes;
}
