use Rattle.std.proofs.Common.{◌≡◌, ◌↔◌, take}
use Rattle.gf2_polynomial.proofs.bytes.difference.Given as goal

abbrev pub invariant-loop-place : goal.invariant-loop-place
invariant-loop-place l = (l.difference ≡ 0) ↔ (take l.place l.left ≡ take l.place l.right)
