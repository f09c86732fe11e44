use Rattle.std.proofs.Common.{◌≡◌, ◌-◌, ◌*◌, ◌/◌, take}
use Rattle.aes_core.specs.Field.{power}
use Rattle.aes_core.specs.KeyExpansion.{extended_key}
use Rattle.aes_core.proofs.key_expansion.expand.Given as goal

abbrev pub invariant-loop-i : goal.invariant-loop-i
invariant-loop-i l = record {
  words : take (4 * l.i) l.w ≡ extended_key l.nk l.key (l.i - l.nk);
  constant : l.constant ≡ power 2 ((l.i - 1) / l.nk);
}
