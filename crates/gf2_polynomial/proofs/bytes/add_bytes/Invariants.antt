use Rattle.std.proofs.Common.{◌≡◌, ◌++◌, take, drop}
use Rattle.gf2_polynomial.specs.Bytes.{bytes_sum}
use Rattle.gf2_polynomial.proofs.bytes.add_bytes.Given as goal

abbrev pub invariant-loop-place : goal.invariant-loop-place
invariant-loop-place l = l.bytes ≡ bytes_sum (take l.place l.initial.bytes) l.added ++ drop l.place l.initial.bytes
