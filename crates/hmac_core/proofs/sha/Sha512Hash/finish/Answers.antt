use Rattle.std.proofs.Common.{take, drop, length, ap, ◌∙◌}
use Rattle.hmac_core.proofs.Blocks.{front_again}
use Rattle.sha2.specs.Sha512.{sha512}
use Rattle.sha2.proofs.Facts512.{length-sha512}
use Rattle.hmac_core.proofs.sha.Sha512Hash.finish.Goals as goal

pub returns-clause-digest : goal.returns-clause-digest
returns-clause-digest c = λ message holds.
    let digest = c.finalize.result in
    ap (take 64) c.put_front.ensures
    ∙ front_again digest (drop (length digest) c.args.out.now) (sha512 message) 64 (length-sha512 message) (c.finalize.ensures message holds)
