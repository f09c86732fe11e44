use Rattle.std.proofs.Common.{ℕ, get_or, arith}
use Rattle.std.specs.Prelude.{bit_xor}
use Rattle.std.proofs.lemmas.List.{get_or_default}
use Rattle.std.proofs.lemmas.List.Edits.{map_over_more}
use Rattle.hmac_core.proofs.hmac.xor_each.Goals as goal

pub loop-byte-preserved : goal.loop-byte-preserved
loop-byte-preserved c =
    let i = c.loop-byte.byte-index in
    let bytes = c.loop-byte.bytes in
    map_over_more (λ (byte : ℕ). bit_xor byte c.args.pad) c.args.bytes.now bytes i (get_or bytes i 0) (omega arith) c.loop-byte.invariant (get_or_default bytes i 0 (get_or bytes i 0) (omega arith))
