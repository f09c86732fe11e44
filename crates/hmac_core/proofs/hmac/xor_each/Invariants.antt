use Rattle.std.proofs.Common.{◌≡◌, ◌++◌, take, drop}
use Rattle.hmac_core.specs.Hmac.{padded}
use Rattle.hmac_core.proofs.hmac.xor_each.Given as goal

abbrev pub invariant-loop-byte : goal.invariant-loop-byte
invariant-loop-byte l = l.bytes ≡ padded l.pad (take l.byte-index l.fn.bytes) ++ drop l.byte-index l.fn.bytes
