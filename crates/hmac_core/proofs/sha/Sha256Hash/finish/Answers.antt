use Rattle.std.proofs.Common.{take, drop, length, ap, ◌∙◌}
use Rattle.hmac_core.proofs.Blocks.{front_again}
use Rattle.sha2.specs.Sha256.{sha256}
use Rattle.sha2.proofs.Facts256.{length-sha256}
use Rattle.hmac_core.proofs.sha.Sha256Hash.finish.Goals as goal

pub returns-clause-digest : goal.returns-clause-digest
returns-clause-digest c = λ message holds.
    let digest = c.finalize.result in
    ap (take 32) c.put_front.ensures
    ∙ front_again digest (drop (length digest) c.args.out.now) (sha256 message) 32 (length-sha256 message) (c.finalize.ensures message holds)
