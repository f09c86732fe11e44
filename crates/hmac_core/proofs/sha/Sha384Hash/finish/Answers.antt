use Rattle.std.proofs.Common.{take, drop, length, ap, ◌∙◌}
use Rattle.hmac_core.proofs.Blocks.{front_again}
use Rattle.sha2.specs.Sha512.{sha384}
use Rattle.sha2.proofs.Facts512.{length-sha384}
use Rattle.hmac_core.proofs.sha.Sha384Hash.finish.Goals as goal

pub returns-clause-digest : goal.returns-clause-digest
returns-clause-digest c = λ message holds.
    let digest = c.finalize.result in
    ap (take 48) c.put_front.ensures
    ∙ front_again digest (drop (length digest) c.args.out.now) (sha384 message) 48 (length-sha384 message) (c.finalize.ensures message holds)
