-- The register stands for what was fed before and what bytes were taken, and stays within its width.
use Rattle.std.proofs.Common.{◌≡◌, ◌<◌, ◌^◌, ◌++◌, ℕ, List, take}
use Rattle.bp_crc.specs.Table.{register_of}
use Rattle.bp_crc.proofs.sliced.with_bytes.Given as goal

abbrev pub invariant-loop-byte : goal.invariant-loop-byte
invariant-loop-byte g l = record {
  within : l.register < 2 ^ g.row.BITS;
  stands : (fed : List ℕ) → l.initial.register ≡ register_of g.row.BITS fed
      → l.register ≡ register_of g.row.BITS (fed ++ take l.byte-index l.bytes);
}
