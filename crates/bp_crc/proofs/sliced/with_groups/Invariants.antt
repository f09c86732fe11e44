-- The register stands for what was fed before and what groups were taken, and stays within its width.
use Rattle.std.proofs.Common.{◌≡◌, ◌<◌, ◌^◌, ◌++◌, ℕ, List, take}
use Rattle.std.specs.List.{concat}
use Rattle.bp_crc.specs.Table.{register_of}
use Rattle.bp_crc.proofs.sliced.with_groups.Given as goal

abbrev pub invariant-loop-group : goal.invariant-loop-group
invariant-loop-group g l = record {
  within : l.register < 2 ^ g.row.BITS;
  stands : (fed : List ℕ) → l.initial.register ≡ register_of g.row.BITS fed
      → l.register ≡ register_of g.row.BITS (fed ++ concat (take l.group-index l.groups));
}
