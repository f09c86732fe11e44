use Rattle.std.proofs.Common.{sym, subst}
use Rattle.gcm_core.specs.Block.{bits}
use Rattle.gcm_core.specs.Tables.{HasMultiples}
use Rattle.gcm_core.proofs.BitsLemmas.{length-bits}
use Rattle.gcm_core.proofs.SubkeyLemmas.{multiple_of_one}
use Rattle.gcm_core.proofs.subkey.Subkey.new.Goals as goal

pub invariant_of-result : goal.invariant_of-result
invariant_of-result c =
    let h = bits 128 c.args.block in
    let entries = c.multiples.result in
    subst (λ p. HasMultiples p entries) (sym (multiple_of_one h entries (length-bits 128 c.args.block) c.multiples.ensures))
    c.multiples.ensures

pub returns : goal.returns
returns c =
    multiple_of_one (bits 128 c.args.block) c.multiples.result (length-bits 128 c.args.block) c.multiples.ensures
