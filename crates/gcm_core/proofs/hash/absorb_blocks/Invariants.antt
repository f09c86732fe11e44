use Rattle.std.proofs.Common.{List, ℕ, ◌++◌, ◌*◌, take}
use Rattle.gcm_core.specs.Hash.{Hashes, filled}
use Rattle.gcm_core.proofs.hash.absorb_blocks.Given as goal

abbrev pub invariant-loop-block : goal.invariant-loop-block
invariant-loop-block l = (before : List ℕ) → Hashes l.subkey before l.hash
    → Hashes l.subkey (before ++ take (16 * l.block) (filled l.bytes)) l.absorbed
